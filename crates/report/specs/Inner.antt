-- What the functions that write a text promise of it.
use Rattle.std.specs.Prelude.{◌≡◌, List, ℕ}
use Rattle.report.specs.declared.text.Text.{Text}
use Rattle.report.specs.Text.{Written}

-- bytes were written at the end of a text, into the buffer that it has
pub record Writes (before : Text) (bytes : List ℕ) (after : Text) : Type 0 where
  pub written : Written before.out.now before.end bytes after.out.now after.end
  pub same : after.out.ghost_name ≡ before.out.ghost_name
