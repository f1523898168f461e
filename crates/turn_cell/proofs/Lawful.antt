-- Each step changes of what a table shows what the laws say.
use Rattle.std.proofs.Common.{◌≡◌, ℕ, ◌+◌, ◌%◌, ◌^◌, ◌⊎◌, inl, inr, [], ◌∷◌, ◌++◌, get_or, refl, sym, ap, ◌∙◌, subst, ⊎_elim, arith}
use Rattle.std.proofs.Math.Nat.{mod-eq_of_lt}
use Rattle.std.specs.Prelude.{Option, Some, None}
use mathlib.Core.Option.{some-injective, some}
use Rattle.atomic_table.proofs.Lists.{set_else}
use Rattle.atomic_table.specs.Table.{keeps, stepped}
use Rattle.turn_cell.specs.declared.entry.CellRecord.{CellRecord}
use Rattle.turn_cell.specs.Laws.{AddsSeat, DrawsUnderTurn, GivesOwnTurn, JoinsOther, SeenIsAllowed, ShowsOneHistory, SplitsOffNote, SplitsOffPass, TakesFreeTurn}
use Rattle.turn_cell.specs.Maps.{with_value_at}
use Rattle.turn_cell.specs.Rule.{ShowsThat, turn_word}
use Rattle.turn_cell.specs.Views.{joined_view, with_own_entry}
use Rattle.turn_cell.proofs.Moves.{clock_small, free_turn, stamp_is_drawn, turn_is_given, turn_is_taken}
use Rattle.turn_cell.proofs.Seats.{note_splits_off, other_joins, pass_splits_off, seat_enters}

free_or_held : (t : Option ℕ) → (t ≡ None) ⊎ ((j : ℕ) × (t ≡ Some j))
free_or_held None = inl refl
free_or_held (Some j) = inr (j, refl)

module _ {S O A K : Type 0} (after : S → O → S) (reply : S → O → A) (kind : S → K) (allows : K → O → A → Type 0) where
  pub one_history_is_shown : ShowsOneHistory after reply kind allows
  one_history_is_shown openings passes s r r' c near = ⊎_elim
      (λ (free : r.turn c ≡ None). let free' : r'.turn c ≡ None = free_turn (r'.turn c) (sym (r'.turns c near) ∙ (r.turns c near ∙ ap turn_word free)) in
      let h = r.homes c near free in let h' = r'.homes c near free' in
      let same : h.record_of ≡ h'.record_of = some-injective h.record_of h'.record_of (some-injective (some h.record_of) (some h'.record_of) (sym h.at ∙ h'.at)) in
      (sym h.entries ∙ (ap (λ (x : CellRecord S O A). x.entries.items) same ∙ h'.entries), free ∙ sym free'))
      (λ (taken : (j : ℕ) × (r.turn c ≡ Some j)). let j = taken.0 in let h = r.holders c j near taken.1 in
      let f = ((r.views j h.view h.at).held h.held h.is).0 in let f' = ((r'.views j h.view h.at).held h.held h.is).0 in let here = h.cell in
      let mine = f.entries in let mine' = f'.entries in let turn = f.turn_is in let turn' = f'.turn_is in
      (sym (ap r.log here) ∙ (sym mine ∙ (mine' ∙ ap r'.log here)), sym (ap r.turn here) ∙ (turn ∙ (sym turn' ∙ ap r'.turn here))))
      (free_or_held (r.turn c))

  pub free_turn_is_taken : TakesFreeTurn after reply kind allows
  free_turn_is_taken openings passes s r id v at c held near idle some_part hit =
      let free : r.turn c ≡ None = free_turn (r.turn c) (sym (r.turns c near) ∙ hit) in let h = r.homes c near free in
      (free, (h.record_of, h.at, h.entries, turn_is_taken after reply kind allows openings passes s r id (v, held) c at near idle some_part free h))

  pub entry_is_drawn : DrawsUnderTurn after reply kind allows
  entry_is_drawn openings passes s r id v at g p e state held has part stamp d = let mine = r.views id v at in let hold = (mine.held g has).0 in let k : ℕ = get_or s.words 0 0 in
      let le = clock_small after reply kind allows openings passes s r in let next : (k + 1) % 2 ^ 64 ≡ k + 1 = mod-eq_of_lt (omega arith) in (
        hold.turn_is,
        (λ i x at_x. let f = mine.seen i x at_x in let a = (r.cells x.cell f.0).early f.1.0 x.entry f.1.1 in omega arith),
        (λ i x at_x. let a = (r.cells g.cell hold.near).early i x at_x in omega arith),
        subst (λ y. ShowsThat after reply kind allows openings passes (stepped s 0 y id held (with_own_entry g p e state v) keeps) (with_value_at r.log g.cell (r.log g.cell ++ e ∷ [])) r.turn) (sym next)
            (stamp_is_drawn after reply kind allows openings passes s r id (v, held) g p e state at has part stamp d),
      )

  pub own_turn_is_given : GivesOwnTurn after reply kind allows
  own_turn_is_given openings passes s r id v at g cell held has state entries = let hold = ((r.views id v at).held g has).0 in
      (hold.turn_is, entries ∙ hold.entries, turn_is_given after reply kind allows openings passes s r id v g cell held at has state entries)

  pub note_is_split_off : SplitsOffNote after reply kind allows
  note_is_split_off openings passes s r id v at live = note_splits_off after reply kind allows openings passes s r id v at live

  pub pass_is_split_off : SplitsOffPass after reply kind allows
  pass_is_split_off openings passes s r id v at first count live idle parts = pass_splits_off after reply kind allows openings passes s r id v first count at live idle parts

  pub other_is_joined : JoinsOther after reply kind allows
  other_is_joined openings passes s r id v at other w live idle apart at_other = other_joins after reply kind allows openings passes s r id v other w at live idle apart
      (set_else s.views id other (joined_view v w) apart ∙ at_other)

  pub seat_is_added : AddsSeat after reply kind allows
  seat_is_added openings passes s r = seat_enters after reply kind allows openings passes s r

  pub seen_entry_is_allowed : SeenIsAllowed after reply kind allows
  seen_entry_is_allowed openings passes s r id v at k x at_x = let f = (r.views id v at).seen k x at_x in
      (f.0, f.1, λ begun at_c. (r.cells x.cell f.0).allowed begun at_c f.1.0 x.entry f.1.1)
