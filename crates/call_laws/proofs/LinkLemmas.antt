-- Where components lead through a link.
use Rattle.std.proofs.Common.{◌≡◌, ℕ, ◌||◌, suc, Bool, true, List, [], ◌∷◌, ◌++◌, append-nil, Option, Some, Result, Err, refl, sym, ap, ◌∙◌}
use Rattle.wf_core.specs.declared.errno.Errno.{Errno}
use Rattle.wf_core.specs.declared.errno.Errno.TheVariants.{Eloop}
use Rattle.name_store.specs.declared.operation.Node.{Node}
use Rattle.name_store.specs.declared.operation.Node.TheVariants.{Link}
use Rattle.path_walk.specs.declared.part.Part.{Part}
use Rattle.path_walk.specs.declared.route.Manner.{Manner}
use Rattle.path_walk.specs.declared.route.Spot.{Spot}
use Rattle.path_walk.specs.declared.route.End.{End}
use Rattle.path_walk.specs.Store.{Store}
use Rattle.path_walk.specs.Paths.{parts_of, slash_of}
use Rattle.path_walk.specs.PathMeaning.{Way, way, course, course_at_link, end_of_course, resolve, start_of}
use Rattle.call_laws.specs.Entries.{node_of}
use Rattle.call_laws.specs.PathLaws.{LinkLeads, is_followed_before, slash_behind}
use Rattle.call_laws.proofs.Leading.{resolve_down}

through : (id links : ℕ) (text : List ℕ) (rest : List Part) (manner : Manner) (slash : Bool) (here : Spot) (next : Way → Result End Errno) → is_followed_before rest manner slash ≡ true → end_of_course (course manner (Some (Link id text)) rest slash (suc links) here) next ≡ next (way (parts_of text ++ rest) (slash_behind rest slash text) links (start_of text here))
through id links text [] manner slash here next h =
    ap (λ (followed : Bool). end_of_course (course_at_link followed text slash (suc links) here) next) h
    ∙ ap (λ (parts : List Part). next (way parts (slash || slash_of text) links (start_of text here))) (sym (append-nil (parts_of text)))
through id links text (part ∷ rest) manner slash here next h = refl

through_none : (id : ℕ) (text : List ℕ) (rest : List Part) (manner : Manner) (slash : Bool) (here : Spot) (next : Way → Result End Errno) → is_followed_before rest manner slash ≡ true → end_of_course (course manner (Some (Link id text)) rest slash 0 here) next ≡ Err Eloop
through_none id text [] manner slash here next h = ap (λ (followed : Bool). end_of_course (course_at_link followed text slash 0 here) next) h
through_none id text (part ∷ rest) manner slash here next h = refl

pub links_lead : (store : Store) (names id : ℕ) (name text : List ℕ) (rest : List Part) (manner : Manner) (slash : Bool) (here : Spot) → node_of store here name ≡ Some (Link id text) → is_followed_before rest manner slash ≡ true → LinkLeads store names name text rest manner slash here
links_lead store names id name text rest manner slash here is h =
    let next : Way → Result End Errno = λ w. resolve store names w.rest manner w.slash w.links w.spot in
    record {
      on = λ links. resolve_down store names name rest manner slash (suc links) here ∙ ap (λ (n : Option Node). end_of_course (course manner n rest slash (suc links) here) next) is ∙ through id links text rest manner slash here next h;
      none_left = resolve_down store names name rest manner slash 0 here ∙ ap (λ (n : Option Node). end_of_course (course manner n rest slash 0 here) next) is ∙ through_none id text rest manner slash here next h;
    }
