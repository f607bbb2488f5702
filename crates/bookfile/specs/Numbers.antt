-- Numbers in bytes, little-endian.
use Rattle.std.specs.Prelude.{cond, List, [], ◌∷◌, ℕ, zero, suc, ◌+◌, ◌*◌, ◌/◌, ◌%◌, ltb, get_or, ℤ, pos, ◌+ℤ◌, ◌-ℤ◌, nat_abs}
use Rattle.std.specs.Int.Signed.{lt_z}

-- 16 bits unsigned, from byte `at` on
unfoldable pub word : List ℕ → ℕ → ℕ
word bytes at = get_or bytes at 0 + 256 * get_or bytes (at + 1) 0

-- 32 bits unsigned
unfoldable pub long : List ℕ → ℕ → ℕ
long bytes at = word bytes at + 65536 * word bytes (at + 2)

-- a number with sign, in two's complement: from `half` on it stands for a negative one
unfoldable pub signed : ℕ → ℕ → ℤ
signed half n = cond (ltb n half) (pos n) (pos n -ℤ pos (2 * half))

-- 16 bits and 32 bits signed
abbrev pub signed16 : ℕ → ℤ
signed16 n = signed 32768 n

abbrev pub signed32 : ℕ → ℤ
signed32 n = signed 2147483648 n

-- the 32 bits of a number with sign
unfoldable pub unsigned32 : ℤ → ℕ
unsigned32 t = nat_abs (cond (lt_z t (pos 0)) (t +ℤ pos 4294967296) t)

-- the lowest bytes of a number n, `count` of them
unfoldable pub bytes_of : ℕ → ℕ → List ℕ
bytes_of zero n = []
bytes_of (suc count) n = n % 256 ∷ bytes_of count (n / 256)
