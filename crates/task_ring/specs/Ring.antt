-- What a contract sees of a `Ring`.
use Rattle.std.specs.Prelude.{ℕ, ◌-◌, List, length, refl}
use Rattle.std.specs.Coded.{Coded, code_by, coded×, coded_ℕ, coded_list}

-- the items, oldest first; how many cells there are; and how many the first `reserve` makes
pub record RingView (T : Type 0) : Type 0 where
  pub items : List T
  pub cells : ℕ
  pub first : ℕ

-- the most cells that the first `reserve` makes
abbrev pub first_max : ℕ
first_max = 65536

-- a view is stored as the tuple of its fields
abbrev pub ring_code : {T : Type 0} → Coded T → Coded (RingView T)
ring_code {T} code =
    code_by
    (List T × (ℕ × ℕ))
    (coded× (coded_list code) (coded× coded_ℕ coded_ℕ))
    (λ r. (r.items, (r.cells, r.first)))
    (λ p. record { items = p.0; cells = p.1.0; first = p.1.1 })
    (λ _. refl)

module _ {T : Type 0} where
  -- how many items can be pushed before the next growth. One cell always stays empty, as in
  -- em_task_queue.c, where equal ends mean an empty queue. Without cells it is 0, since `-` stops at 0
  abbrev pub spare : RingView T → ℕ
  spare r = r.cells - 1 - length r.items
