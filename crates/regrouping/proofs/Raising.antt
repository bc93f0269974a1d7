-- Laws of numbers and calls that go up by one.
use Prim.Native.Nat.{ℕ, suc, ◌<◌, ◌≤◌}
use native.Mathlib.Omega.{arith}
use mathlib.Core.Path.{◌≡◌, refl, sym, ap, ◌∙◌}
use mathlib.Core.Bool.{true}
use mathlib.Core.List.Memᴰ
use mathlib.Core.List.{List, [], ◌∷◌, Memᴰ}
use lib.ListN.{length, length-map}
use borrow.Author.Tests.{lt-ltb, le-ltb}
use Rattle.runs.proofs.Tests.{either}
use Rattle.book.specs.declared.item.Item.{Item}
use Rattle.book.specs.declared.item.Item.TheVariants.{Key, Call}
use Rattle.book.specs.Format.{Macro, item_fits}
use Rattle.book.specs.declared.item.Repeated.{Repeated}
use Rattle.book.specs.Expansion.{keys_of, expand, unrolled}
use Rattle.book.proofs.Expansion.{unrolled-none, expand-none, expand-cons}
use Rattle.book.proofs.WellFormed.{TargetSound, ItemSound, fits-alike}
use Rattle.regrouping.specs.Regrouping.{raised, raised_target, raised_item, raised_items}

-- a macro below j stays where it is, another goes up
pub raised-low : (j i : ℕ) → i < j → raised j i ≡ i
unfolding raised
raised-low j i h = rw (lt-ltb i j h) refl

pub raised-high : (j i : ℕ) → j ≤ i → raised j i ≡ suc i
unfolding raised
raised-high j i h = rw (le-ltb i j h) refl

-- so what was lower stays lower
pub raised-lower : (j i n : ℕ) → i < n → raised j i < raised j n
raised-lower j i n h =
    either i j
    (λ l. either n j (λ k. rw (raised-low j i l, raised-low j n k) h) (λ k. rw (raised-low j i l, raised-high j n k) (omega arith)))
    (λ l. let k : j ≤ n = omega arith in rw (raised-high j i l, raised-high j n k) (omega arith))

pub raised-most : (j i n : ℕ) → i ≤ n → raised j i ≤ raised j n
raised-most j i n h = either i n (λ l. omega (arith, raised-lower j i n l)) (λ l. let e : i ≡ n = omega arith in rw e (omega arith))

-- there are as many items
pub raised-length : (j : ℕ) (is : Macro) → length (raised_items j is) ≡ length is
raised-length j is = length-map is (raised_item j)

-- sound ones stay sound
raised-target : (j n : ℕ) (x : Item) → TargetSound n x → TargetSound (raised j n) (raised_target j x)
raised-target j n (Key k) h = h
raised-target j n (Call i) h = raised-lower j i n h

pub raised-sound : (j n : ℕ) (is : Macro) → ((i : Repeated) → Memᴰ i is → ItemSound n i) → (i : Repeated) → Memᴰ i (raised_items j is) → ItemSound (raised j n) i
raised-sound j n is e i c =
    let (x, inside, same) = Memᴰ.of_map (raised_item j) is c in
    let s = e x inside in
    rw (← same) (record { target = raised-target j n x.item s.target; some = s.some })

-- and they write what the items before wrote, if the called macros do
keys-raised : (j : ℕ) (f : ℕ → List ℕ) (x : Item) → keys_of f (raised_target j x) ≡ keys_of (λ k. f (raised j k)) x
keys-raised j f (Key k) = refl
keys-raised j f (Call i) = refl

pub expand-raised : (j : ℕ) (f : ℕ → List ℕ) (is : Macro) → expand f (unrolled (raised_items j is)) ≡ expand (λ k. f (raised j k)) (unrolled is)
expand-raised j f [] = ap (expand f) unrolled-none ∙ expand-none f ∙ sym (ap (expand (λ k. f (raised j k))) unrolled-none ∙ expand-none (λ k. f (raised j k)))
expand-raised j f (i ∷ is) =
    expand-cons f (raised_item j i) (raised_items j is)
    ∙ rw (keys-raised j f i.item, expand-raised j f is) (sym (expand-cons (λ k. f (raised j k)) i is))

-- what can be written in a version still can
pub raised-fits : (version j : ℕ) (is : Macro) → ((i : Repeated) → Memᴰ i is → item_fits version i ≡ true) → (i : Repeated) → Memᴰ i (raised_items j is) → item_fits version i ≡ true
raised-fits version j is e i c = let (x, inside, same) = Memᴰ.of_map (raised_item j) is c in rw (← same) (fits-alike version (raised_item j x) x refl ∙ e x inside)

-- and only what could
pub fits-raised : (version j : ℕ) (is : Macro) → ((i : Repeated) → Memᴰ i (raised_items j is) → item_fits version i ≡ true) → (i : Repeated) → Memᴰ i is → item_fits version i ≡ true
fits-raised version j is e i c = fits-alike version i (raised_item j i) refl ∙ e (raised_item j i) (Memᴰ.map (raised_item j) c)
