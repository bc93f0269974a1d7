-- Document 01, "Forms for specific places": "For every case of an enum answer, a definition gives this paper's number and values."
use Rattle.std.specs.Prelude.{ℕ}
use Rattle.refusal.specs.declared.Refusal.{Refusal}
use Rattle.refusal.specs.Number.{number}

-- The paper's figures for an answer: the refusal's number, 0 if there is none, and the value or values.
pub record Figures (A : Type 0) : Type 0 where
  pub refusal : ℕ
  pub value : A

abbrev pub answered : {A : Type 0} → A → Figures A
answered a = record { refusal = 0; value = a }

-- "A refusal's other numbers are 0", which `zeros` is
abbrev pub refused_with : {A : Type 0} → A → Refusal → Figures A
refused_with zeros r = record { refusal = number r; value = zeros }

-- where the value is one number
abbrev pub refused_for : Refusal → Figures ℕ
refused_for r = refused_with 0 r
