use Rattle.post_core.specs.SendParts.{pass_view, post_places, use_place}
use Rattle.post_tests.proofs.PlaceUses.{creates_may, new_may}
use Rattle.post_tests.proofs.places.create_place.Goals as goal

pub returns-clause-uses : goal.returns-clause-uses
returns-clause-uses g c =
    let post = c.args.post.now in
    let made = c.in-Made.ensures.made in
    (creates_may post (post_places post) (use_place c.in-Made.place_use) (pass_view c.args.pass) (pass_view c.in-Made.pass) made.3, new_may post (pass_view c.in-Made.pass) c.in-Made.place_use made.2)
