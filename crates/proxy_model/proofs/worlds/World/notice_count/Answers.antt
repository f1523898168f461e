use Rattle.std.proofs.Common.{◌≡◌, ◌∙◌, count_by, rules}
use Rattle.std.proofs.Common.{Bool, false}
use Rattle.proxy_model.proofs.Listed.{count_by_places}
use Rattle.proxy_model.proofs.worlds.World.notice_count.Goals as goal

pub returns : goal.returns
returns c =
    let listed : c.count.result ≡ count_by (λ (mailed : Bool). mailed) c.args.self.now.mail.items = search rules in
    listed ∙ count_by_places (λ (mailed : Bool). mailed) c.args.self.now.mail.items false c.args.self.now.places c.args.self.now.has_places.mail_len
