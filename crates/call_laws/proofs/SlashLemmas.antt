-- A path that ends in a slash names a directory or nothing.
use Rattle.path_walk.specs.Programs.{CallOutcome}
use Rattle.path_walk.specs.declared.call.Base.TheVariants.{Cwd}
use Rattle.std.proofs.Common.{◌≡◌, ℕ, zero, suc, Bool, true, List, [], ◌∷◌, ◌++◌, Option, None, Some, Result, Ok, Err, refl, sym, ap, subst, ◌∙◌}
use Rattle.wf_core.specs.Limits.{path_names_max, symloop_max}
use Rattle.wf_core.specs.declared.errno.Errno.{Errno}
use Rattle.wf_core.specs.declared.errno.Errno.TheVariants.{Enoent}
use Rattle.name_store.specs.declared.operation.Node.{Node}
use Rattle.name_store.specs.declared.operation.Node.TheVariants.{Dir, Link, File as FileNode, Mount}
use Rattle.name_store.specs.NameTrees.{Tree, Listing, dir_at, entry_at, remfile_outcome, remfile_outcome_at, unless_gone}
use Rattle.path_walk.specs.declared.part.Part.{Part}
use Rattle.path_walk.specs.declared.part.Part.TheVariants.{Here, Up, Down, TooLong}
use Rattle.path_walk.specs.declared.route.Manner.{Manner}
use Rattle.path_walk.specs.declared.route.Manner.TheVariants.{OnWay, Follows, Stays}
use Rattle.path_walk.specs.declared.route.Spot.{Spot}
use Rattle.path_walk.specs.declared.route.Route.{Route}
use Rattle.path_walk.specs.declared.route.End.{End}
use Rattle.path_walk.specs.declared.route.End.TheVariants.{Directory, File, LinkText}
use Rattle.path_walk.specs.declared.goal.Change.{Change}
use Rattle.path_walk.specs.declared.goal.Change.TheVariants as change
use Rattle.path_walk.specs.declared.call.Reply.{Reply}
use Rattle.path_walk.specs.declared.call.Reply.TheVariants.{Fault}
use Rattle.path_walk.specs.declared.call.Call.TheVariants.{Unlink, Symlink}
use Rattle.path_walk.specs.Store.{Store, names_at}
use Rattle.path_walk.specs.Paths.{parts_of, path_fault, slash_of}
use Rattle.path_walk.specs.PathMeaning.{Way, course, end_of_course, on_found, parent_from, resolve, root_of, spot_beside, start_of}
use Rattle.path_walk.specs.Plans.{Plan, at_once, on_ok, ok_unless, unless_fault, parent_route, whole_route, walks_from}
use Rattle.path_walk.specs.Calls.{parent_of, parent_plan, name_of, faults_of, slash_fault, op_of, last_step, change_plan, changes, status_plan, text_plan, text_fault, path_at}
use Rattle.path_walk.specs.Posix.{posix}
use Rattle.call_laws.specs.Entries.{node_of, path_end, path_spot}
use Rattle.call_laws.specs.PathLaws.{AsksForDirectory, IsDirOrFault, IsFault}
use Rattle.call_laws.proofs.Leading.{resolve_down}
use Rattle.call_laws.proofs.MakingLemmas.{after_names}
use Rattle.call_laws.proofs.ChangeLemmas.{parent_route_of, walks_at}

-- the end is a directory, or an error
abbrev IsDirEnd : Result End Errno → Type 0
IsDirEnd (Err error) = Unit {0}
IsDirEnd (Ok (Directory there)) = Unit {0}
IsDirEnd (Ok (File backend file)) = ⊥
IsDirEnd (Ok (LinkText text)) = ⊥

found_dir : {A : Type 0} (found : Result A Errno) (next : A → Result End Errno) → ((x : A) → IsDirEnd (next x)) → IsDirEnd (on_found found next)
found_dir (Ok x) next each = each x
found_dir (Err error) next each = tt

node_dir : (manner : Manner) (node : Option Node) (rest : List Part) (links : ℕ) (here : Spot) (next : Way → Result End Errno) → ((parts : List Part) (left : ℕ) (spot : Spot) → IsDirEnd (next (record { rest = parts; slash = true; links = left; spot = spot }))) → IsDirEnd (end_of_course (course manner node rest true links here) next)
node_dir manner None rest links here next each = tt
node_dir manner (Some (Dir id)) rest links here next each = each rest links (spot_beside here id)
node_dir manner (Some (Mount backend)) rest links here next each = each rest links (root_of backend)
node_dir OnWay (Some (FileNode file)) [] links here next each = tt
node_dir Follows (Some (FileNode file)) [] links here next each = tt
node_dir Stays (Some (FileNode file)) [] links here next each = tt
node_dir manner (Some (FileNode file)) (part ∷ rest) links here next each = tt
node_dir OnWay (Some (Link id text)) [] zero here next each = tt
node_dir Follows (Some (Link id text)) [] zero here next each = tt
node_dir Stays (Some (Link id text)) [] zero here next each = tt
node_dir OnWay (Some (Link id text)) [] (suc links) here next each = each (parts_of text) links (start_of text here)
node_dir Follows (Some (Link id text)) [] (suc links) here next each = each (parts_of text) links (start_of text here)
node_dir Stays (Some (Link id text)) [] (suc links) here next each = each (parts_of text) links (start_of text here)
node_dir manner (Some (Link id text)) (part ∷ rest) zero here next each = tt
node_dir manner (Some (Link id text)) (part ∷ rest) (suc links) here next each = each (parts_of text ++ part ∷ rest) links (start_of text here)

dir_ends : (store : Store) (names : ℕ) (parts : List Part) (manner : Manner) (links : ℕ) (here : Spot) → IsDirEnd (resolve store names parts manner true links here)
dir_ends store names [] manner links here = tt
dir_ends store names (Here ∷ rest) manner links here = dir_ends store names rest manner links here
dir_ends store names (TooLong ∷ rest) manner links here = tt
dir_ends store zero (Up ∷ rest) manner links here = tt
dir_ends store (suc names) (Up ∷ rest) manner links here = found_dir (parent_from store here) _ (λ there. dir_ends store names rest manner links there)
dir_ends store zero (Down name ∷ rest) manner links here = tt
dir_ends store (suc names) (Down name ∷ rest) manner links here =
    subst IsDirEnd (sym (resolve_down store names name rest manner true links here))
    (node_dir manner (node_of store here name) rest links here _ (λ parts left spot. dir_ends store names parts manner left spot))

path_dir : (version : ℕ) (store : Store) (manner : Manner) (path : List ℕ) → slash_of path ≡ true → IsDirEnd (path_end version store manner path)
path_dir version store manner path h =
    subst (λ (slash : Bool). IsDirEnd (resolve store path_names_max (parts_of path) manner slash symloop_max (path_spot version store path))) (sym h) (dir_ends store path_names_max (parts_of path) manner symloop_max (path_spot version store path))

status_dir : (store : Store) (end : Result End Errno) → IsDirEnd end → IsDirOrFault (at_once store (status_plan end)).reply
status_dir store (Err error) h = tt
status_dir store (Ok (Directory there)) h = tt
status_dir store (Ok (File backend file)) h = absurd h
status_dir store (Ok (LinkText text)) h = absurd h

text_fails : (store : Store) (end : Result End Errno) → IsDirEnd end → IsFault (at_once store (text_plan end)).reply
text_fails store (Err error) h = tt
text_fails store (Ok (Directory there)) h = tt
text_fails store (Ok (File backend file)) h = absurd h
text_fails store (Ok (LinkText text)) h = absurd h

-- what holds of each error, and of what follows the whole path's end, holds of the reply
whole_reply : (version : ℕ) (P : Reply → Type 0) (store : Store) (manner : Manner) (path : List ℕ) (next : Result End Errno → Plan) → ((error : Errno) → P (Fault error)) → P (at_once store (next (path_end version store manner path))).reply → P (at_once store (on_ok (whole_route manner path) (λ route. walks_from (path_at version Cwd path).base route next))).reply
whole_reply version P store manner path next fails h = by_fault (path_fault path)
  where
    by_fault : (fault : Option Errno) → P (at_once store (on_ok (ok_unless fault (record { parts = parts_of path; last = None; manner = manner; slash = slash_of path })) (λ route. walks_from (path_at version Cwd path).base route next))).reply
    by_fault (Some error) = fails error
    by_fault None = subst (λ (o : CallOutcome). P o.reply) (sym (walks_at version store path (record { parts = parts_of path; last = None; manner = manner; slash = slash_of path }) next)) h

on_ok_fails : {A : Type 0} (store : Store) (r : Result A Errno) (next : A → Plan) → ((x : A) → r ≡ Ok x → IsFault (at_once store (next x)).reply) → IsFault (at_once store (on_ok r next)).reply
on_ok_fails store (Ok x) next each = each x refl
on_ok_fails store (Err error) next each = tt

unless_fails : (store : Store) (fault : Option Errno) (p : Plan) → (fault ≡ None → IsFault (at_once store p).reply) → IsFault (at_once store (unless_fault fault p)).reply
unless_fails store (Some error) p h = tt
unless_fails store None p h = h refl

end_fails : (store : Store) (last : Option Part) (next : Spot → Plan) (end : Result End Errno) → ((spot : Spot) → IsFault (at_once store (next spot)).reply) → IsFault (at_once store (parent_plan last next end)).reply
end_fails store last next (Err error) each = tt
end_fails store last next (Ok end) each = on_ok_fails store (parent_of last end) next (λ spot e. each spot)

route_is : (path : List ℕ) (fault : Option Errno) (route : Route) → ok_unless fault (parent_route_of path) ≡ Ok route → route ≡ parent_route_of path
route_is path (Some error) route h = cc
route_is path None route h = cc

-- a change whose last step is refused by the slash fails
change_fails : (version : ℕ) (store : Store) (change : Change) (path : List ℕ) → ((spot : Spot) (name : List ℕ) → slash_fault change (slash_of path) ≡ None → IsFault (at_once store (last_step spot.backend (op_of change spot.directory name (slash_of path)))).reply) → IsFault (at_once store (changes change (path_at version Cwd path))).reply
change_fails version store change path each =
    on_ok_fails store (parent_route path) (λ route. walks_from (path_at version Cwd path).base route (parent_plan route.last (change_plan change route.last route.slash))) (λ route e.
    subst (λ (r : Route). IsFault (at_once store (walks_from (path_at version Cwd path).base r (parent_plan r.last (change_plan change r.last r.slash)))).reply) (sym (route_is path (path_fault path) route e))
    (subst (λ (o : CallOutcome). IsFault o.reply) (sym (walks_at version store path (parent_route_of path) _))
    (end_fails store (parent_route_of path).last (change_plan change (parent_route_of path).last (slash_of path)) _ (λ spot.
    on_ok_fails store (name_of (faults_of change) (parent_route_of path).last) (λ name. unless_fault (slash_fault change (slash_of path)) (last_step spot.backend (op_of change spot.directory name (slash_of path)))) (λ name e.
    unless_fails store (slash_fault change (slash_of path)) (last_step spot.backend (op_of change spot.directory name (slash_of path))) (each spot name))))))

node_fails : (store : Store) (backend : ℕ) (tree : Tree) (id : ℕ) (name : List ℕ) (node : Option Node) → IsFault (after_names store backend (remfile_outcome_at tree id name true node)).reply
node_fails store backend tree id name None = tt
node_fails store backend tree id name (Some (Dir child)) = tt
node_fails store backend tree id name (Some (Mount mounted)) = tt
node_fails store backend tree id name (Some (FileNode file)) = tt
node_fails store backend tree id name (Some (Link link text)) = tt

remfile_fails : (store : Store) (backend : ℕ) (tree : Tree) (id : ℕ) (name : List ℕ) (directory : Option Listing) → IsFault (after_names store backend (unless_gone tree directory (remfile_outcome tree id name true))).reply
remfile_fails store backend tree id name None = tt
remfile_fails store backend tree id name (Some directory) = node_fails store backend tree id name (entry_at directory name)

unlink_fails : (version : ℕ) (store : Store) (path : List ℕ) → slash_of path ≡ true → IsFault (posix version store (Unlink path)).reply
unlink_fails version store path h =
    change_fails version store change.Remfile path (λ spot name e.
    subst (λ (slash : Bool). IsFault (at_once store (last_step spot.backend (op_of change.Remfile spot.directory name slash))).reply) (sym h)
    (remfile_fails store spot.backend (names_at store spot.backend) spot.directory name (dir_at (names_at store spot.backend) spot.directory)))

symlink_fails : (version : ℕ) (store : Store) (path : List ℕ) → slash_of path ≡ true → (text : List ℕ) → IsFault (posix version store (Symlink text path)).reply
symlink_fails version store path h text =
    unless_fails store (text_fault text) (changes (change.Addlink text) (path_at version Cwd path)) (λ e.
    change_fails version store (change.Addlink text) path (λ spot name none.
    let clash : Some Enoent ≡ None = sym (ap (slash_fault (change.Addlink text)) h) ∙ none in absurd (cc)))

pub slashes_ask_for_directories : (version : ℕ) (store : Store) (path : List ℕ) → slash_of path ≡ true → AsksForDirectory version store path
slashes_ask_for_directories version store path h = record {
  stat = whole_reply version IsDirOrFault store Follows path status_plan (λ error. tt) (status_dir store (path_end version store Follows path) (path_dir version store Follows path h));
  lstat = whole_reply version IsDirOrFault store Stays path status_plan (λ error. tt) (status_dir store (path_end version store Stays path) (path_dir version store Stays path h));
  readlink = whole_reply version IsFault store Stays path text_plan (λ error. tt) (text_fails store (path_end version store Stays path) (path_dir version store Stays path h));
  unlink = unlink_fails version store path h;
  symlink = symlink_fails version store path h;
}
