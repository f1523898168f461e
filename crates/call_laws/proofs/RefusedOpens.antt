-- An `open` with `creat` and `excl` of what is there is refused.
use Rattle.std.proofs.Common.{◌≡◌, ℕ, ◌||◌, not, Bool, true, false, if◌then◌else◌, Option, None, Some, slice_get, ap, ◌∙◌}
use Rattle.wf_core.specs.Limits.{symloop_max}
use Rattle.wf_core.specs.declared.errno.Errno.{Errno}
use Rattle.wf_core.specs.declared.errno.Errno.TheVariants.{Eexist, Eisdir, Eloop, Enotdir}
use Rattle.name_store.specs.declared.operation.Node.{Node}
use Rattle.name_store.specs.declared.operation.Node.TheVariants.{Dir, Link, File as FileNode, Mount}
use Rattle.file_store.specs.declared.descriptor_operation.Slot.TheVariants as slot
use Rattle.path_walk.specs.declared.open_request.OpenFlags.{OpenFlags}
use Rattle.path_walk.specs.declared.open_request.OpenRequest.{OpenRequest}
use Rattle.path_walk.specs.declared.open_request.OpenRoute.{OpenRoute}
use Rattle.path_walk.specs.declared.route.Station.{Station}
use Rattle.path_walk.specs.declared.call.Reply.TheVariants as reply
use Rattle.path_walk.specs.Store.{Store}
use Rattle.path_walk.specs.Paths.{slash_of}
use Rattle.path_walk.specs.PathMeaning.{station}
use Rattle.path_walk.specs.Programs.{replied}
use Rattle.path_walk.specs.Plans.{Plan, at_once}
use Rattle.path_walk.specs.OpenPlan.{directory_fault, file_fault, found_plan, is_exclusive, link_fault, opens_along, reads_only, request_of, unless_drops}
use Rattle.call_laws.specs.ExclusiveLaws.{ExclusivesRefuse}
use Rattle.call_laws.proofs.OpenErrors.{drops_back, held, lowest_is_free}
use Rattle.call_laws.proofs.OpenLemmas.{at_entry}

module _ (store : Store) (number : ℕ) (free : slice_get store.descriptors.slots number ≡ Some slot.Free) where
  refused : (fault : Option Errno) (p : Plan) → fault ≡ Some Eexist → at_once (held store number) (unless_drops number fault p) ≡ replied store (reply.Fault Eexist)
  refused fault p is =
      ap (λ (f : Option Errno). at_once (held store number) (unless_drops number f p)) is
      ∙ ap (λ (s : Store). replied s (reply.Fault Eexist)) (drops_back store number free Eexist)

  refused_at : (follow : OpenRequest → Station → OpenRoute → Plan) (flags : OpenFlags) (slash : Bool) (here : Station) (node : Node) → is_exclusive flags ≡ true → slash ≡ false → at_once (held store number) (found_plan follow (request_of number flags slash) here node) ≡ replied store (reply.Fault Eexist)
  refused_at follow flags slash here (Dir id) exclusive plain = refused (directory_fault flags) _ (ap (λ (b : Bool). let f : Option Errno = if b then Some Eexist else if flags.creat || not (reads_only flags.access) then Some Eisdir else None in f) exclusive)
  refused_at follow flags slash here (Mount backend) exclusive plain = refused (directory_fault flags) _ (ap (λ (b : Bool). let f : Option Errno = if b then Some Eexist else if flags.creat || not (reads_only flags.access) then Some Eisdir else None in f) exclusive)
  refused_at follow flags slash here (FileNode file) exclusive plain = refused (file_fault flags slash) _ (ap (λ (b : Bool). let f : Option Errno = if b then Some Eexist else if slash || flags.directory then Some Enotdir else None in f) exclusive)
  refused_at follow flags slash here (Link id text) exclusive plain = refused (link_fault flags slash) _ (ap (link_fault flags) plain ∙ ap (λ (b : Bool). let f : Option Errno = if b then Some Eexist else if flags.nofollow then Some Eloop else None in f) exclusive)

pub exclusives_refuse : ExclusivesRefuse
exclusives_refuse version store path flags number here name stood reached exclusive plain =
    at_entry version store path flags number here name (Some stood) reached
    ∙ refused_at store number (lowest_is_free store.descriptors number reached.lowest) (opens_along symloop_max) flags (slash_of path) (station reached.entry.left reached.entry.links here) stood exclusive plain
