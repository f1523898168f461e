-- A call that replies an error leaves the store as it was.
use Rattle.path_walk.specs.declared.route.End.{End}
use Rattle.file_store.specs.DescriptorMap.{dstep}
use Rattle.path_walk.specs.DescriptorCalls.{enters}
use Rattle.path_walk.specs.declared.call.Base.{Base}
use Rattle.path_walk.specs.declared.call.Base.TheVariants.{Cwd, Fd}
use Rattle.path_walk.specs.declared.route.Spot.{Spot}
use Rattle.path_walk.specs.declared.route.Route.{Route}
use Rattle.file_store.specs.declared.descriptor_operation.FdOp.TheVariants as fd
use Rattle.path_walk.specs.declared.step.StepAnswer.TheVariants.{Answered}
use Rattle.path_walk.specs.declared.step.StoreAnswer.TheVariants.{Descriptors as DescriptorsAnswer}
use Rattle.std.proofs.Common.{◌≡◌, ℕ, ◌%◌, refl, ap, ◌∙◌, Option, Result, Ok, None, Some, Err}
use Rattle.wf_core.specs.Limits.{path_names_max, symloop_max, group_count}
use Rattle.wf_core.specs.declared.errno.Errno.{Errno}
use Rattle.name_store.specs.declared.operation.NameOp.{NameOp}
use Rattle.name_store.specs.declared.operation.NameAnswer.{NameAnswer}
use Rattle.name_store.specs.declared.operation.NameAnswer.TheVariants as answer
use Rattle.name_store.specs.NameTrees.{Tree, nstep}
use Rattle.name_store.specs.Laws.{LeavesTree}
use Rattle.name_store.proofs.Refusals.{refused_same}
use Rattle.path_walk.specs.declared.step.StoreAnswer.TheVariants.{Names as NamesAnswer}
use Rattle.path_walk.specs.declared.step.StepAnswer.TheVariants.{Answered}
use Rattle.path_walk.specs.declared.call.Call.{Call}
use Rattle.path_walk.specs.declared.call.Reply.TheVariants as reply
use Rattle.path_walk.specs.Store.{Store, names_at, with_names}
use Rattle.path_walk.specs.PathMeaning.{root_of, resolve}
use Rattle.path_walk.specs.Plans.{Plan, at_once, from_base, spot_in, walks_in}
use Rattle.path_walk.specs.Calls.{plan_after, unlinked_by, last_step}
use Rattle.path_walk.specs.Posix.{posix}
use Rattle.path_walk.proofs.Plans.{Holds, any_end, each_call}
use Rattle.call_laws.specs.ErrorLaws.{DescriptionsAreThere}
use Rattle.path_walk.proofs.Leads.{same_names}
use Rattle.call_laws.proofs.StoreLemmas.{same_group}
use Rattle.call_laws.proofs.FileErrors.{uses_same, takes_same, copies_same, copies_onto_same}
use Rattle.call_laws.proofs.OpenErrors.{opens_same}

-- where the plan replies an error, the store is as it was
abbrev Spares : Plan → Type 0
Spares p = (store : Store) (error : Errno) → DescriptionsAreThere store → (at_once store p).reply ≡ reply.Fault error → (at_once store p).store ≡ store

after_spares : (store : Store) (backend : ℕ) (tree : Tree) (given : NameAnswer) (error : Errno) → (LeavesTree given → tree ≡ names_at store backend) → (at_once (with_names store backend tree) (plan_after backend (Answered (NamesAnswer given)) (unlinked_by (Answered (NamesAnswer given))))).reply ≡ reply.Fault error → (at_once (with_names store backend tree) (plan_after backend (Answered (NamesAnswer given)) (unlinked_by (Answered (NamesAnswer given))))).store ≡ store
after_spares store backend tree answer.Gone error same e = ap (with_names store backend) (same tt) ∙ same_names store backend
after_spares store backend tree (answer.Fault given) error same e = ap (with_names store backend) (same tt) ∙ same_names store backend
after_spares store backend tree answer.Absent error same e = cc
after_spares store backend tree (answer.Found node) error same e = cc
after_spares store backend tree (answer.MadeDir id) error same e = cc
after_spares store backend tree (answer.MadeLink id) error same e = cc
after_spares store backend tree (answer.Taken node) error same e = cc
after_spares store backend tree answer.Done error same e = cc
after_spares store backend tree (answer.RemovedFile file) error same e = cc
after_spares store backend tree answer.RemovedLink error same e = cc
after_spares store backend tree answer.Same error same e = cc
after_spares store backend tree (answer.Over file) error same e = cc
after_spares store backend tree answer.Moved error same e = cc
after_spares store backend tree (answer.Names names) error same e = cc

last_spares : (backend : ℕ) (op : NameOp) → Spares (last_step backend op)
last_spares backend op store error there e =
    let outcome = nstep (names_at store backend) op in
    after_spares store backend outcome.tree outcome.answer error (refused_same (names_at store backend) op) e

from_spares : (origin : Option Base) (next : Result Spot Errno → Plan) → ((start : Result Spot Errno) → Spares (next start)) → Spares (from_base origin next)
from_spares None next each = each (Ok (root_of 0))
from_spares (Some Cwd) next each = λ store error there e. each (spot_in (Answered (DescriptorsAnswer (dstep store.descriptors fd.Cwd).answer))) store error there e
from_spares (Some (Fd number)) next each = λ store error there e. each (spot_in (Answered (DescriptorsAnswer (dstep store.descriptors (fd.Look number)).answer))) store error there e

walks_in_spare : (route : Route) (next : Result End Errno → Plan) → ((end : Result End Errno) → Spares (next end)) → (start : Result Spot Errno) → Spares (walks_in route next start)
walks_in_spare route next each (Ok spot) = λ store error there e. each (resolve store path_names_max route.parts route.manner route.slash symloop_max spot) store error there e
walks_in_spare route next each (Err given) = each (Err given)

enters_spare : (start : Result Spot Errno) → Spares (enters start)
enters_spare (Ok there) = λ store error all e. cc
enters_spare (Err given) = λ store error all e. refl

spares_hold : Holds (λ count p. Spares p) (λ backend. Unit {0})
spares_hold = record {
  over = λ count given store error there e. refl;
  size = λ count backend file so store error there e. same_group store backend (file % group_count);
  last = λ count backend op so. last_spares backend op;
  uses_files = λ number purpose store error there. uses_same store number purpose error;
  takes_numbers = λ number store error there. takes_same store there number error;
  copies_numbers = λ number store error there. copies_same store there number error;
  copies_onto = λ number target store error there. copies_onto_same store there number target error;
  opens_paths = λ at flags store error there. opens_same store at flags error;
  along = λ count origin route next each. from_spares origin (walks_in route next) (walks_in_spare route next (λ end. each end (any_end end)));
  sets = λ count there so. enters_spare (Ok there);
  enters_numbers = λ number. from_spares (Some (Fd number)) enters enters_spare;
}

pub errors_change_nothing : (version : ℕ) (store : Store) (c : Call) (error : Errno) → DescriptionsAreThere store → (posix version store c).reply ≡ reply.Fault error → (posix version store c).store ≡ store
errors_change_nothing version store c error there e = each_call (λ count p. Spares p) (λ backend. Unit {0}) spares_hold version c store error there e
