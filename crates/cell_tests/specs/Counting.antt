-- What a counter does: an amount is added, and the sum is answered.
use Rattle.std.specs.Prelude.{ℕ, ◌+◌, ◌%◌, ◌^◌}
use Rattle.cell_tests.specs.declared.counter.Counter.{Counter}

abbrev pub counter_after : Counter → ℕ → Counter
counter_after counter amount = record { count = (counter.count + amount) % 2 ^ 64 }

abbrev pub counter_reply : Counter → ℕ → ℕ
counter_reply counter amount = (counter.count + amount) % 2 ^ 64
