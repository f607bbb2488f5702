-- The converter's refusals: what one list of checks says. Assumes nothing.
use mathlib.Core.Path.{◌≡◌, refl, sym, ap, ◌∙◌}
use mathlib.Core.List.{List, [], ◌∷◌, ◌++◌}
use Prim.Native.Nat.{ℕ}
use native.Mathlib.Omega.{arith}
use lib.ListN.{length}
use Rattle.maxatom.proofs.Lists.{each_join}
use Rattle.derivation.specs.declared.Counts.{Counts}
use Rattle.derivation.specs.Refusals.{Reply, reply}
use Rattle.derivation.proofs.Refusing.{refusing}
use Rattle.bookfile.specs.declared.mark.Form.TheVariants.{Stored}
use Rattle.bookfile.specs.Reading.{after}
use Rattle.bookfile.specs.Theorems.{file_checks}
use Rattle.bookfile.proofs.Refusing.{after_append, after_any, file_is, file_own}
use Rattle.converter.specs.Converting.{converted, output_checks, convert_reply, convert_out}
use Rattle.converter.specs.Theorems.{ConverterDemand1}

-- the converter's reply is that of one list of checks
convert_is : (file : List ℕ) (room : ℕ) →
    convert_reply file room ≡ reply (file_checks Stored file ++ output_checks file room) (length (converted file))
unfolding convert_reply
convert_is file room =
    let len = length (converted file) in
    let last : Reply ℕ = reply (output_checks file room) len in
    ap (λ (s : Reply Counts). after s last) (file_is Stored file) ∙ after_any _ (file_checks Stored file) last
    ∙ sym (after_append len (file_checks Stored file) (output_checks file room))

pub converter_demand_1 : ConverterDemand1
unfolding convert_out
converter_demand_1 file out =
    rw (convert_is file (length out))
    (refusing _ _ _ _ _ (each_join _ (file_checks Stored file) _ (file_own Stored (21 ∷ []) file) ((9, omega arith, refl), tt)))
