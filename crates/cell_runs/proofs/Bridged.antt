-- From the records of a closed table to what the law asks of the cells.
use Rattle.std.proofs.Common.{◌≡◌, ℕ, zero, suc, ◌<◌, List, [], ◌∷◌, length, map, sym, ap, ◌∙◌, subst, arith}
use Rattle.std.proofs.lemmas.List.{length-map}
use mathlib.Core.Option.{some, some-injective}
use lib.ListN.{get_elem?}
use Rattle.turn_cell.specs.declared.entry.Entry.{Entry}
use Rattle.turn_cell.specs.declared.entry.CellRecord.{CellRecord}
use Rattle.turn_cell.specs.declared.view.Known.{Known}
use Rattle.turn_cell.specs.declared.view.View.{View}
use Rattle.turn_cell.specs.Histories.{Replays, count_with_stamp, entries_at_cell, entries_of_runner, state_after}
use Rattle.turn_cell.specs.Views.{own_in}
use Rattle.turn_cell.specs.Records.{AreHistories, IsLegal}
use Rattle.turn_cell.proofs.Closings.{at_there, sum_listed}
use Rattle.turn_cell.proofs.Gathering.{at_unmap}
use Rattle.cell_runs.specs.Runs.{log_of, CellsAreLegal}

module _ {S O A : Type 0} where
  pub log_there : (rs : List (CellRecord S O A)) (c : ℕ) (r : CellRecord S O A) → get_elem? rs c ≡ some r → log_of rs c ≡ r.entries.items
  log_there [] c r e = absurd (cc)
  log_there (x ∷ rs) zero r e = ap (λ (z : CellRecord S O A). z.entries.items) (some-injective x r e)
  log_there (x ∷ rs) (suc c) r e = log_there rs c r e

module _ {S O A K C R : Type 0} (after : S → O → S) (reply : S → O → A) (kind : S → K) (allows : K → O → A → Type 0) (Walk : List R → C → List (Known O A) → R → Type 0) where
  pub cells_keep : (openings : List S) (views : List (View S O A)) (rs : List (CellRecord S O A)) (opening last : ℕ → S) → AreHistories after reply kind allows openings views rs
      → ((c : ℕ) (s : S) → get_elem? openings c ≡ some s → opening c ≡ s) → ((c : ℕ) (r : CellRecord S O A) → get_elem? rs c ≡ some r → last c ≡ r.state)
      → CellsAreLegal after reply Walk opening (map own_in views) (log_of rs) last (length rs)
  cells_keep openings views rs opening last h opens lasts = let count = h.count in
      let cell : (c : ℕ) → c < length rs → (r : CellRecord S O A) × (s : S) × (get_elem? rs c ≡ some r) × (get_elem? openings c ≡ some s) × (log_of rs c ≡ r.entries.items) × IsLegal after reply kind allows s r
      = λ c near. let r = at_there rs c near in let s = at_there openings c (omega arith) in (r.0, s.0, r.1, s.1, log_there rs c r.0 r.1, h.legal c r.0 s.0 r.1 s.1) in record {
        rises = λ c near. let x = cell c near in subst (λ (es : List (Entry O A)). (i j : ℕ) (e f : Entry O A) → get_elem? es i ≡ some e → get_elem? es j ≡ some f → i < j → e.stamp < f.stamp) (sym x.4) x.5.rises;
        answers = λ c near. let x = cell c near in subst (λ (z : S × List (Entry O A)). Replays after reply z.0 z.1) (λ i. (sym (opens c x.1 x.3) i, sym x.4 i)) x.5.answers;
        last_is = λ c near. let x = cell c near in lasts c x.0 x.2 ∙ (x.5.state ∙ (λ i. state_after after (sym (opens c x.1 x.3) i) (sym x.4 i)));
        clock = h.clock;
        once = λ x. sym (sum_listed (λ (z : CellRecord S O A). count_with_stamp x z.entries.items) (λ c. count_with_stamp x (log_of rs c)) rs (λ c z e. ap (count_with_stamp x) (sym (log_there rs c z e)))) ∙ h.once x;
        runners = λ c near i e at. let x = cell c near in let a = h.runners c x.0 x.2 i e (ap (λ (es : List (Entry O A)). get_elem? es i) (sym x.4) ∙ at) in let l = length-map views (own_in {S = S} {O = O} {A = A}) in omega arith;
        own = λ t c ks at near. let x = cell c near in let u = at_unmap own_in views t ks at in ap (entries_of_runner t) x.4 ∙ (h.own t c u.0 x.0 u.1 x.2 ∙ ap (entries_at_cell c) u.2);
        own_near = λ t i ks k at at_k. let u = at_unmap own_in views t ks at in let n = h.own_near t i u.0 k u.1 (ap (λ (l : List (Known O A)). get_elem? l i) u.2 ∙ at_k) in omega arith;
      }
