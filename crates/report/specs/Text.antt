-- Decimal text, as bytes of ASCII.
use Rattle.std.specs.Prelude.{◌≡◌, cond, List, [], ◌∷◌, ◌++◌, ℕ, zero, suc, ◌+◌, ◌/◌, ◌%◌, ltb, length, ℤ, pos, negsuc}
use Rattle.std.proofs.lemmas.List.Edits.{sets}

-- bytes stand in a buffer from a place on, and the next place; what does not fit is left out
pub record Written (before : List ℕ) (at : ℕ) (bytes after : List ℕ) (next : ℕ) : Type 0 where
  pub is : after ≡ sets before at bytes
  pub to : next ≡ at + length bytes

-- decimal, with more digits than any number below the fuel has
unfoldable pub digits : ℕ → ℕ → List ℕ
digits zero n = []
digits (suc fuel) n =
    let rest = digits fuel (n / 10) in
    cond (ltb n 10) ((48 + n) ∷ []) (rest ++ ((48 + n % 10) ∷ []))

unfoldable pub decimal : ℕ → List ℕ
decimal n = digits (suc n) n

-- one blank, and a number; a minus sign before a negative one
abbrev pub field : ℕ → List ℕ
field n = 32 ∷ decimal n

unfoldable pub signed_field : ℤ → List ℕ
signed_field (pos n) = field n
signed_field (negsuc n) = 32 ∷ 45 ∷ decimal (suc n)
