-- Drafts, and what puts a text behind one.
use Rattle.std.specs.Prelude.{◌≡◌, ℕ, List}
use Rattle.decimals.specs.declared.text.Draft.{Draft}
use Rattle.decimals.specs.Texts.{put_at, place_after}

-- A draft with one text more, in the same buffer. Without room for all of that text the draft is as it was.
pub record Puts (w : List ℕ) (before after : Draft) : Type 0 where
  pub same : after.bytes.ghost_name ≡ before.bytes.ghost_name
  pub buffer : after.bytes.now ≡ put_at before.bytes.now before.length w
  pub place : after.length ≡ place_after before.bytes.now before.length w
