use Rattle.proxy_model.proofs.Ranges.{mail_in_range}
use Rattle.proxy_model.proofs.laws.world_is_well_formed.Goals as goal

pub returns : goal.returns
returns c = let w = c.args.world.now in record {
  phases = λ s p near. w.phases_in_range s p;
  looks = λ s p near. w.looks_in_range s p;
  turns = λ p s at. w.turns_in_range p s;
  notices = λ p. mail_in_range w.places p w.mail.items w.has_places.mail_len;
  marks = λ p s at. w.marks_in_range p s;
}
