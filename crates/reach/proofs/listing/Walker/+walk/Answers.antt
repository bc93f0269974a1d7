-- `enter` and `enter_items`, which call each other.
use native.Mathlib.Omega.{arith}
use mathlib.Core.Path.{refl, ◌∙◌}
use Rattle.reach.proofs.Walks as laws
use Rattle.reach.proofs.listing.Walker.+walk.Goals as goal
use Rattle.reach.proofs.listing.Walker.+walk.Goals.{enter_items-in-Call, enter_items-in_default-item}

pub enter-bounds-self-i : goal.enter-bounds-self-i
enter-bounds-self-i t c = search laws.enter-macro

pub enter-returns-then-self-i-clause-walk : goal.enter-returns-then-self-i-clause-walk
enter-returns-then-self-i-clause-walk t c = search laws.enter-known

pub enter-bounds-self-i-2 : goal.enter-bounds-self-i-2
enter-bounds-self-i-2 t c = search laws.enter-macro

pub enter-overflow_cast-self : goal.enter-overflow_cast-self
enter-overflow_cast-self t c = omega (arith, laws.enter-macro _ _ _ _ _ _ c.requires)

pub enter-bounds-self-self : goal.enter-bounds-self-self
enter-bounds-self-self t c = search laws.enter-room

pub enter-enter_items-requires : goal.enter-enter_items-requires
enter-enter_items-requires t c = (omega arith, search laws.enter-items)

pub enter-returns-clause-walk : goal.enter-returns-clause-walk
enter-returns-clause-walk t c = search laws.enter-left

pub enter_items-loop-k-init : goal.enter_items-loop-k-init
enter_items-loop-k-init t c = record { same = refl; book = refl; walk = search laws.turn-first }

pub enter_items-enter-requires : goal.enter_items-enter-requires
enter_items-enter-requires t c =
    let so_far = c.loop-k.invariant in
    let read = rw so_far.book at c.item.ensures in
    let lower = laws.turn-lower c.requires so_far.walk read c.in-Some.is c.in-Call.is in
    (omega (arith, lower), rw so_far.book (laws.turn-enters c.requires so_far.walk read c.in-Some.is c.in-Call.is))

pub enter_items-loop-k-preserved : goal.enter_items-loop-k-preserved
enter_items-loop-k-preserved t c =
    let so_far = c.loop-k.invariant in
    let read = rw so_far.book at c.item.ensures in
    elim c.match-next.branch [
      | enter_items-in-Call w ↦
          rw w.self-is
          (record {
            same = w.enter.ensures.same ∙ so_far.same;
            book = w.enter.ensures.book ∙ so_far.book;
            walk = laws.turn-call c.requires so_far.walk read c.in-Some.is w.in-Call.is (rw so_far.book at w.enter.ensures.walk);
          })
      | enter_items-in_default-item w ↦
          rw w.self-is
          (record { same = so_far.same; book = so_far.book; walk = laws.turn-key c.requires so_far.walk read c.in-Some.is w.in_default-item.is })
    ]

pub enter_items-returns-after-loop-k-clause-walk : goal.enter_items-returns-after-loop-k-clause-walk
enter_items-returns-after-loop-k-clause-walk t c = search laws.turn-full

pub enter_items-returns-in_default-clause-walk : goal.enter_items-returns-in_default-clause-walk
enter_items-returns-in_default-clause-walk t c = laws.turn-end c.requires c.loop-k.invariant.walk (rw c.loop-k.invariant.book at c.item.ensures) c.in_default.is
