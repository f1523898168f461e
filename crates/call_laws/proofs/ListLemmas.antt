-- The lists of a directory, one after another, are all of its names.
use Rattle.std.proofs.Common.{◌≡◌, ℕ, ◌+◌, ◌*◌, zero, suc, List, ◌++◌, take, drop, take_all, Option, None, Some, Result, Ok, refl, sym, ap, ◌∙◌, arith}
use Rattle.std.proofs.Math.Seq.{take-add, drop-drop}
use Rattle.std.specs.Map.{keys_of}
use Rattle.wf_core.specs.Limits.{list_max}
use Rattle.wf_core.specs.declared.errno.Errno.{Errno}
use Rattle.name_store.specs.NameTrees.{Listing, list_answer, outcome_of, unless_gone}
use Rattle.path_walk.specs.declared.route.Manner.TheVariants.{Follows}
use Rattle.path_walk.specs.declared.route.Station.{Station}
use Rattle.path_walk.specs.declared.route.End.{End}
use Rattle.path_walk.specs.declared.route.End.TheVariants.{Directory}
use Rattle.path_walk.specs.declared.call.Call.TheVariants.{List as ListCall}
use Rattle.path_walk.specs.declared.call.Reply.TheVariants.{Names}
use Rattle.path_walk.specs.Store.{Store, names_at}
use Rattle.path_walk.specs.Paths.{path_fault}
use Rattle.path_walk.specs.Programs.{CallOutcome, replied}
use Rattle.path_walk.specs.Plans.{at_once}
use Rattle.path_walk.specs.Calls.{list_plan}
use Rattle.path_walk.specs.Posix.{posix}
use Rattle.call_laws.specs.Entries.{directory_at, path_end}
use Rattle.call_laws.specs.PathLaws.{ListsNames, names_in, names_listed}
use Rattle.path_walk.proofs.Leads.{same_names}
use Rattle.call_laws.proofs.MakingLemmas.{after_names}
use Rattle.call_laws.proofs.ChangeLemmas.{whole_at}

abbrev listed_from : Listing → ℕ → List (List ℕ)
listed_from directory start = take list_max (drop start (keys_of directory.entries))

-- the list of a directory that is there
list_at : (store : Store) (there : Station) (directory : Listing) (start : ℕ) → directory_at store there.spot ≡ Some directory → at_once store (list_plan start (Ok (Directory there))) ≡ replied store (Names (listed_from directory start))
list_at store there directory start is =
    ap (λ (d : Option Listing). after_names store there.spot.backend (unless_gone (names_at store there.spot.backend) d (λ d. outcome_of (names_at store there.spot.backend) (list_answer d start)))) is
    ∙ ap (λ (s : Store). replied s (Names (listed_from directory start))) (same_names store there.spot.backend)

list_replies : (version : ℕ) (store : Store) (path : List ℕ) (there : Station) (directory : Listing) → path_fault path ≡ None → path_end version store Follows path ≡ Ok (Directory there) → directory_at store there.spot ≡ Some directory → (start : ℕ) → posix version store (ListCall path start) ≡ replied store (Names (listed_from directory start))
list_replies version store path there directory walked end is start =
    whole_at version store Follows path (list_plan start) walked ∙ ap (λ (e : Result End Errno). at_once store (list_plan start e)) end ∙ list_at store there directory start is

-- so many lists are of so many times as many names
lists_are : (version : ℕ) (store : Store) (path : List ℕ) (keys : List (List ℕ)) → ((start : ℕ) → posix version store (ListCall path start) ≡ replied store (Names (take list_max (drop start keys)))) → (lists start : ℕ) → names_listed version lists store path start ≡ take (lists * list_max) (drop start keys)
lists_are version store path keys each zero start = refl
lists_are version store path keys each (suc lists) start =
    ap (λ (o : CallOutcome). names_in o.reply ++ names_listed version lists store path (start + list_max)) (each start)
    ∙ ap (λ (rest : List (List ℕ)). take list_max (drop start keys) ++ rest) (lists_are version store path keys each lists (start + list_max) ∙ ap (take (lists * list_max)) (sym (drop-drop list_max start keys)))
    ∙ sym (take-add list_max (lists * list_max) (drop start keys))
    ∙ ap (λ (n : ℕ). take n (drop start keys)) (omega arith)

pub list_names_each_once : (version : ℕ) (store : Store) (path : List ℕ) (there : Station) (directory : Listing) → path_fault path ≡ None → path_end version store Follows path ≡ Ok (Directory there) → directory_at store there.spot ≡ Some directory → ListsNames version store path there.spot directory
list_names_each_once version store path there directory walked end is =
    let each = list_replies version store path there directory walked end is in
    record {
      one = each;
      all = λ lists enough. lists_are version store path (keys_of directory.entries) each lists 0 ∙ take_all (lists * list_max) (keys_of directory.entries) enough;
      order = λ sorted. sorted directory is;
    }
