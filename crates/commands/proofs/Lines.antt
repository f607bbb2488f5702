-- A command's text is read as the command, and no other line is. Assumes nothing.
use mathlib.Core.Path.{◌≡◌, refl, sym, ap, ◌∙◌}
use mathlib.Core.Bool.{Bool, true, false, cond}
use mathlib.Core.List.{List, [], ◌∷◌, ◌++◌}
use mathlib.Core.Logic.{◌⊎◌, inl, inr}
use Prim.Native.Nat.{ℕ}
use lib.Chars.{codes}
use lib.IntN.{ℤ}
use Rattle.std.specs.Prelude.{Option, Some, None, option_map, bytes_eq}
use Rattle.std.proofs.lemmas.Option.{none-some, same_Some}
use Rattle.std.proofs.lemmas.Slice.Eq.{bytes_eq-Decides}
use Rattle.maxatom.specs.declared.Slip.{Slip}
use Rattle.report.specs.Text.{decimal}
use Rattle.commands.specs.declared.reading.Command.{Command}
use Rattle.commands.specs.declared.reading.Command.TheVariants.{Show, Step, Back, Kept, Tight, Rule, Run, Fresh, Plan}
use Rattle.commands.specs.Commands.{slip_fields, command_text, SlipFits, Fits, Reads, TextsDiffer}
use Rattle.commands.specs.Reading.{blank, first_word, behind, begins, number, time, slip_of, slip, numbered, command_of}
use Rattle.commands.proofs.Numbers.{number_read, number_sound, signed_decimal, signed_is, time_read, time_sound}
use Rattle.commands.proofs.Words.{decimal_solid, signed_solid, first_is, behind_is, cut}

-- a slip's numbers, without the blank before them
abbrev times_text : Slip → List ℕ
times_text s = signed_decimal s.before ++ (32 ∷ signed_decimal s.after)

abbrev slip_text : Slip → List ℕ
slip_text s = decimal s.job ++ (32 ∷ times_text s)

fields_are : (s : Slip) → slip_fields s ≡ 32 ∷ slip_text s
unfolding slip_fields
fields_are s = rw (signed_is s.before, signed_is s.after) refl

slip_read : (s : Slip) → SlipFits s → slip (slip_text s) ≡ Some s
unfolding slip slip_of
slip_read s f =
    rw (
      first_is (times_text s) (decimal_solid s.job),
      behind_is (times_text s) (decimal_solid s.job),
      first_is (signed_decimal s.after) (signed_solid s.before),
      behind_is (signed_decimal s.after) (signed_solid s.before),
      number_read 65535 s.job f.job,
      time_read s.before f.before,
      time_read s.after f.after,
    )
    refl

slip_parts : (job : Option ℕ) (before after : Option ℤ) (s : Slip) → slip_of job before after ≡ Some s →
    (job ≡ Some s.job) × (before ≡ Some s.before) × (after ≡ Some s.after)
unfolding slip_of
slip_parts (Some job) (Some before) (Some after) s e =
    let same = same_Some (record { job = job; before = before; after = after }) s e in
    (ap (λ (s : Slip). Some s.job) same, ap (λ (s : Slip). Some s.before) same, ap (λ (s : Slip). Some s.after) same)
slip_parts (Some job) (Some before) None s e = absurd (none-some s e)
slip_parts (Some job) None after s e = absurd (none-some s e)
slip_parts None before after s e = absurd (none-some s e)

-- a word, a blank, and what is behind
joined_as : {line word words text numbers : List ℕ} → line ≡ word ++ (32 ∷ text) → word ≡ words → text ≡ numbers → line ≡ words ++ (32 ∷ numbers)
joined_as {words = words} {text = text} e f g = e ∙ (ap (λ (w : List ℕ). w ++ (32 ∷ text)) f ∙ ap (λ (t : List ℕ). words ++ (32 ∷ t)) g)

time_none : {A : Type 0} (text : List ℕ) (t : ℤ) → text ≡ [] → time text ≡ Some t → A
unfolding time
time_none text t e f = absurd (none-some t (rw e at f))

nothing : (text : List ℕ) → text ≡ [] → behind text ≡ []
unfolding behind
nothing text e = rw e refl

slip_sound : (s : Slip) (text : List ℕ) → slip text ≡ Some s → (text ≡ slip_text s) × SlipFits s
unfolding slip
slip_sound s text e = go (cut text) (cut (behind text))
  where
    parts : (number 65535 (first_word text) ≡ Some s.job) × (time (first_word (behind text)) ≡ Some s.before) × (time (behind (behind text)) ≡ Some s.after)
    parts = slip_parts (number 65535 (first_word text)) (time (first_word (behind text))) (time (behind (behind text))) s e

    go : (text ≡ first_word text ++ (32 ∷ behind text)) ⊎ (behind text ≡ []) →
        (behind text ≡ first_word (behind text) ++ (32 ∷ behind (behind text))) ⊎ (behind (behind text) ≡ []) →
        (text ≡ slip_text s) × SlipFits s
    go (inl e) (inl f) =
        let job = number_sound 65535 s.job (first_word text) parts.0 in
        let before = time_sound s.before (first_word (behind text)) parts.1 in
        let after = time_sound s.after (behind (behind text)) parts.2 in
        (joined_as e job.0 (joined_as f before.0 after.0), record { job = job.1; before = before.1; after = after.1 })
    go (inl e) (inr f) = time_none (behind (behind text)) s.after f parts.2
    go (inr e) f = time_none (behind (behind text)) s.after (nothing (behind text) e) parts.2

-- a command's text is read as the command
pub command_read : (c : Command) → Fits c → command_of (command_text c) ≡ Some c
unfolding command_of command_text numbered first_word behind blank
command_read Show f = refl
command_read Kept f = refl
command_read Run f = refl
command_read Fresh f = refl
command_read Plan f = refl
command_read (Step r) f = ap (option_map Step) (number_read 4294967295 r f)
command_read (Tight r) f = ap (option_map Tight) (number_read 4294967295 r f)
command_read (Rule r) f = ap (option_map Rule) (number_read 4294967295 r f)
command_read (Back s) f = rw (fields_are s) (ap (option_map Back) (slip_read s f))

-- what is read of a line is a command whose text it is
abbrev Sound : List ℕ → Option Command → Type 0
Sound line answer = (c : Command) → answer ≡ Some c → (line ≡ command_text c) × Fits c

choose : {line : List ℕ} (p : Bool) (x y : Option Command) → (p ≡ true → Sound line x) → (p ≡ false → Sound line y) → Sound line (cond p x y)
choose true x y f g = f refl
choose false x y f g = g refl

silent : (line : List ℕ) → Sound line None
silent line c e = absurd (none-some c e)

plain : (line word : List ℕ) (d : Command) → word ≡ command_text d → Fits d → bytes_eq line word ≡ true → Sound line (Some d)
plain line word d w f e c h = rw (← same_Some d c h) ((bytes_eq-Decides line word).0 e ∙ w, f)

mapped : {A : Type 0} (line : List ℕ) (make : A → Command) (o : Option A) →
    ((a : A) → o ≡ Some a → (line ≡ command_text (make a)) × Fits (make a)) → Sound line (option_map make o)
mapped line make None f c e = absurd (none-some c e)
mapped line make (Some a) f c e = rw (← same_Some (make a) c e) (f a refl)

module _ (line word numbers : List ℕ) (e : line ≡ word ++ (32 ∷ numbers)) where
  is_word : (w : List ℕ) → bytes_eq word w ≡ true → word ≡ w
  is_word w h = (bytes_eq-Decides word w).0 h

  numbered_sound : Sound line (numbered word numbers)
  unfolding numbered command_text
  numbered_sound =
      choose (bytes_eq word (codes "STEP")) _ _
      (λ h. mapped line Step (number 4294967295 numbers) (λ r f.
      let s = number_sound 4294967295 r numbers f in
      (joined_as e (is_word (codes "STEP") h) s.0, s.1)))
      (λ _. choose (bytes_eq word (codes "BACK")) _ _
      (λ h. mapped line Back (slip numbers) (λ r f.
      let s = slip_sound r numbers f in
      (rw (fields_are r) (joined_as e (is_word (codes "BACK") h) s.0), s.1)))
      (λ _. choose (bytes_eq word (codes "TIGHT")) _ _
      (λ h. mapped line Tight (number 4294967295 numbers) (λ r f.
      let s = number_sound 4294967295 r numbers f in
      (joined_as e (is_word (codes "TIGHT") h) s.0, s.1)))
      (λ _. choose (bytes_eq word (codes "RULE")) _ _
      (λ h. mapped line Rule (number 4294967295 numbers) (λ r f.
      let s = number_sound 4294967295 r numbers f in
      (joined_as e (is_word (codes "RULE") h) s.0, s.1)))
      (λ _. silent line))))

numbered_none : (word : List ℕ) → numbered word [] ≡ None
unfolding numbered number begins slip slip_of first_word behind blank
numbered_none word = go (bytes_eq word (codes "STEP")) (bytes_eq word (codes "BACK")) (bytes_eq word (codes "TIGHT")) (bytes_eq word (codes "RULE"))
  where
    go : (p q r s : Bool) → cond {A = Option Command} p None (cond q None (cond r None (cond s None None))) ≡ None
    go true q r s = refl
    go false true r s = refl
    go false false true s = refl
    go false false false true = refl
    go false false false false = refl

pub command_sound : (line : List ℕ) → Sound line (command_of line)
unfolding command_of command_text
command_sound line =
    choose (bytes_eq line (codes "SHOW")) _ _ (plain line (codes "SHOW") Show refl tt)
    (λ _. choose (bytes_eq line (codes "KEPT")) _ _ (plain line (codes "KEPT") Kept refl tt)
    (λ _. choose (bytes_eq line (codes "RUN")) _ _ (plain line (codes "RUN") Run refl tt)
    (λ _. choose (bytes_eq line (codes "FRESH")) _ _ (plain line (codes "FRESH") Fresh refl tt)
    (λ _. choose (bytes_eq line (codes "PLAN")) _ _ (plain line (codes "PLAN") Plan refl tt)
    (λ _. last (cut line))))))
  where
    last : (line ≡ first_word line ++ (32 ∷ behind line)) ⊎ (behind line ≡ []) → Sound line (numbered (first_word line) (behind line))
    last (inl e) = numbered_sound line (first_word line) (behind line) e
    last (inr e) = λ c h. absurd (none-some c (sym (ap (λ (l : List ℕ). numbered (first_word line) l) e ∙ numbered_none (first_word line)) ∙ h))

-- a line's reading
pub reads : (line : List ℕ) (answer : Option Command) → answer ≡ command_of line → Reads line answer
reads line answer e = rw e (record { text = command_sound line; every = λ c f g. rw g (command_read c f) })

pub texts_differ : TextsDiffer
texts_differ c d f g e = same_Some c d (sym (command_read c f) ∙ (ap command_of e ∙ command_read d g))
