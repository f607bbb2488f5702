-- What a session has said of the bytes that it has read. Assumes nothing.
use mathlib.Core.Path.{◌≡◌, refl, sym, ap, subst, ◌∙◌}
use mathlib.Core.List.{List, [], ◌∷◌, ◌++◌, append_assoc, append-nil}
use Prim.Native.Nat.{ℕ, zero, suc, ◌+◌, ◌-◌, ◌^◌, ◌<◌, ◌≤◌}
use native.Mathlib.Omega.{arith}
use lib.ListN.{length, take, drop, set, get_or, length-append}
use Rattle.session.specs.declared.board.Board.{Board}
use Rattle.session.specs.Boards.{book_of}
use borrow.Author.Tests.{ne_eqb}
use Rattle.std.specs.Prelude.{Option, Result, Ok, Err, OnOk}
use Rattle.std.specs.Io.KnownBytes.{Consumes, Appends, IsAtEnd}
use Rattle.std.proofs.KnownBytes.{Consumes-nil, Consumes-trans, Appends-nil, Appends-trans}
use Rattle.std.proofs.lemmas.List.{take_all, take_at, take_more_set, length-take-le}
use Rattle.maxatom.specs.Book.{Book}
use Rattle.maxatom.proofs.Choose.{cond_no}
use Rattle.derivation.specs.Step.{State}
use Rattle.session.specs.Turns.{line_turn}
use Rattle.session.specs.Sessions.{ended, transcript, Served}

-- an empty line, and another
pub ended_none : (b : Book) (s : State) (line : List ℕ) → length line ≡ 0 → ended b s line ≡ record { text = []; after = s }
unfolding ended
ended_none b s [] h = refl
ended_none b s (c ∷ line) h = absurd (omega (arith, h))

pub ended_some : (b : Book) (s : State) (line : List ℕ) → (length line ≡ 0 → ⊥) → ended b s line ≡ line_turn b s line
unfolding ended
ended_some b s [] h = absurd (h refl)
ended_some b s (c ∷ line) h = refl

pub on_ok : {A E : Type 0} {P : Type 0} (r : Result A E) → P → OnOk r P
on_ok (Ok a) p = p
on_ok (Err e) p = tt

pub record Going (b : Book) (first : State) (read₀ read wrote₀ wrote : Option (List ℕ)) (s : State) (line : List ℕ) (count : ℕ) : Type 0 where
  pub bytes : List ℕ
  pub said : List ℕ
  pub taken : Consumes read₀ read bytes
  pub given : Appends wrote₀ wrote said
  pub same : (rest : List ℕ) → transcript b first [] (bytes ++ rest) ≡ said ++ transcript b s line rest
  pub counted : count ≤ length bytes

pub going_none : (b : Book) (s : State) (read wrote : Option (List ℕ)) → Going b s read read wrote wrote s [] 0
going_none b s read wrote =
    record { bytes = []; said = []; taken = Consumes-nil read; given = Appends-nil wrote; same = λ rest. refl; counted = omega arith }

module _ {b : Book} {first s : State} {read₀ read read' wrote₀ wrote : Option (List ℕ)} {line : List ℕ} {count : ℕ}
    (g : Going b first read₀ read wrote₀ wrote s line count) where
  -- a line feed
  pub going_line : {wrote' : Option (List ℕ)} → Consumes read read' (10 ∷ []) → Appends wrote wrote' (ended b s line).text →
      Going b first read₀ read' wrote₀ wrote' (ended b s line).after [] (count + 1)
  unfolding transcript
  going_line {wrote' = wrote'} p q =
      let text = (ended b s line).text in
      record {
        bytes = g.bytes ++ (10 ∷ []);
        said = g.said ++ text;
        taken = Consumes-trans read₀ read read' g.bytes (10 ∷ []) g.taken p;
        given = Appends-trans wrote₀ wrote wrote' g.said text g.given q;
        same = λ rest.
            ap (λ (l : List ℕ). transcript b first [] l) (append_assoc g.bytes (10 ∷ []) rest)
            ∙ (g.same (10 ∷ rest) ∙ sym (append_assoc g.said text (transcript b (ended b s line).after [] rest)));
        counted = let n = g.counted in omega (arith, n, length-append g.bytes (10 ∷ []));
      }

  -- another byte
  pub going_byte : (byte : ℕ) → (byte ≡ 10 → ⊥) → Consumes read read' (byte ∷ []) →
      Going b first read₀ read' wrote₀ wrote s (take 256 (line ++ (byte ∷ []))) (count + 1)
  unfolding transcript
  going_byte byte h p =
      record {
        bytes = g.bytes ++ (byte ∷ []);
        said = g.said;
        taken = Consumes-trans read₀ read read' g.bytes (byte ∷ []) g.taken p;
        given = g.given;
        same = λ rest.
            ap (λ (l : List ℕ). transcript b first [] l) (append_assoc g.bytes (byte ∷ []) rest)
            ∙ (g.same (byte ∷ rest) ∙ ap (λ (l : List ℕ). g.said ++ l) (cond_no _ _ (ne_eqb byte 10 h)));
        counted = let n = g.counted in omega (arith, n, length-append g.bytes (byte ∷ []));
      }

  -- the end of the input, or of the count
  pub going_all : {wrote' : Option (List ℕ)} → Consumes read read' [] → (length g.bytes < 2 ^ 64 - 1 → IsAtEnd read') →
      Appends wrote wrote' (ended b s line).text → Served b first read₀ read' wrote₀ wrote'
  unfolding transcript
  going_all {wrote' = wrote'} p e q =
      let text = (ended b s line).text in
      let whole : transcript b first [] g.bytes ≡ g.said ++ text = ap (λ (l : List ℕ). transcript b first [] l) (sym (append-nil g.bytes)) ∙ g.same [] in
      record {
        bytes = g.bytes;
        read = subst (Consumes read₀ read') (append-nil g.bytes) (Consumes-trans read₀ read read' g.bytes [] g.taken p);
        said = subst (Appends wrote₀ wrote') (sym whole) (Appends-trans wrote₀ wrote wrote' g.said text g.given q);
        all = e;
      }

-- the kept bytes of a line, with one more, and with one more than there is room for
pub kept_more : (line : List ℕ) (n byte : ℕ) → length line ≡ 256 → n < 256 →
    take 256 (take n line ++ (byte ∷ [])) ≡ take (n + 1) (set line n byte)
kept_more line n byte h g =
    take_all 256 (take n line ++ (byte ∷ [])) (omega (arith, length-append (take n line) (byte ∷ []), length-take-le n line (omega (arith, h, g))))
    ∙ sym (take_more_set line n byte (omega (arith, h, g)))

pub kept_full : (line : List ℕ) (n byte : ℕ) → length line ≡ 256 → n ≡ 256 → take 256 (take n line ++ (byte ∷ [])) ≡ take n line
kept_full line n byte h e = rw e (take_at (take 256 line) (byte ∷ []) 256 (length-take-le 256 line (omega (arith, h))))

-- what a read into a place for one byte gave
pub one_byte : (buf : List ℕ) (n : ℕ) → length buf ≡ 1 → n ≤ length buf → (n ≡ 0 → ⊥) → take n buf ≡ get_or buf 0 0 ∷ []
one_byte [] n e h f = absurd (omega (arith, e))
one_byte (b ∷ []) zero e h f = absurd (f refl)
one_byte (b ∷ []) (suc zero) e h f = refl
one_byte (b ∷ []) (suc (suc n)) e h f = absurd (omega (arith, h))
one_byte (b ∷ c ∷ buf) n e h f = absurd (omega (arith, e))

pub on_map : {A E P Q : Type 0} (r : Result A E) → (P → Q) → OnOk r P → OnOk r Q
on_map (Ok a) f p = f p
on_map (Err e) f p = tt

pub book_is : (x y : Board) → x.rules.now ≡ y.rules.now → x.latest.now ≡ y.latest.now → book_of x ≡ book_of y
book_is x y e f = rw (e, f) refl

pub served_as : {b b' : Book} {s s' : State} {r r' w w' : Option (List ℕ)} → b ≡ b' → s ≡ s' → Served b s r r' w w' → Served b' s' r r' w w'
served_as e f h = rw (← e, ← f) h
