-- One entry: what is read is spelled so, and what is spelled so is read.
use Rattle.std.proofs.Common.{◌≡◌, ℕ, ◌+◌, ◌<◌, ◌≤◌, Bool, true, false, cond, ltb, eqb, List, [], ◌∷◌, ◌++◌, length}
use Rattle.std.proofs.Common.{slice_index, take, drop, Result, Ok, Err, refl, sym, ap, ◌∙◌, append_assoc, arith, inl}
use Rattle.std.proofs.Common.{inr}
use Rattle.std.proofs.lemmas.Bool.{cond_both, ltb-true, ltb-false, eqb-true, eqb-false, lt-ltb, le-ltb, ne_eqb}
use Rattle.std.proofs.lemmas.List.{take_at, drop_at, take-append-drop, length-append, length-take, length-drop}
use Rattle.std.proofs.lemmas.List.{get_or-drop}
use Rattle.byteorder.specs.Endian.{little_bytes, little_number}
use Rattle.byteorder.specs.Numbers.{little_number-reads_back, little_from-lt}
use Rattle.concise_dcf.specs.declared.write.Write.{Write}
use Rattle.concise_dcf.specs.declared.fault.ConciseFault.{ConciseFault}
use Rattle.concise_dcf.specs.declared.fault.ConciseFault.TheVariants.{Memory, Short, Extra, Empty}
use Rattle.concise_dcf.specs.Concise.{header_of, entry_of, Fits, size_at, IsCut, IsHollow}
use Rattle.concise_dcf.specs.Reading.{entry_at}
use Rattle.base.proofs.Little.{spelled_again}
use Rattle.base.specs.Bytes.{AreBytes}

pub AreBytes-drop : (n : ℕ) (bytes : List ℕ) → AreBytes bytes → AreBytes (drop n bytes)
AreBytes-drop n bytes h i = rw get_or-drop (h (n + i))

-- what a reader took from the front
pub record Takes (bytes text rest : List ℕ) : Type 0 where
  pub parts : bytes ≡ text ++ rest
  pub rest_fits : AreBytes rest

pub Takes-then : (a x b y c : List ℕ) → Takes a x b → Takes b y c → Takes a (x ++ y) c
Takes-then a x b y c p q = record {
  parts = p.parts ∙ ap (λ (t : List ℕ). x ++ t) q.parts ∙ sym (append_assoc x y c);
  rest_fits = q.rest_fits;
}

-- the fault of the entry at the front
abbrev pub EntryFault : ConciseFault → List ℕ → Type 0
EntryFault Memory rest = ⊥
EntryFault Short rest = IsCut rest
EntryFault Extra rest = ⊥
EntryFault Empty rest = IsHollow rest

abbrev pub EntryAnswer : List ℕ → Result (Write × List ℕ) ConciseFault → Type 0
EntryAnswer bytes (Ok x) = Takes bytes (entry_of x.0) x.1 × Fits x.0
EntryAnswer bytes (Err f) = EntryFault f bytes

header_cut : (bytes : List ℕ) → 7 ≤ length bytes
    → take 2 bytes ++ (slice_index bytes 2 ∷ take 4 (drop 3 bytes)) ≡ take 7 bytes
header_cut [] h = absurd (omega arith)
header_cut (a ∷ []) h = absurd (omega arith)
header_cut (a ∷ b ∷ []) h = absurd (omega arith)
header_cut (a ∷ b ∷ c ∷ []) h = absurd (omega arith)
header_cut (a ∷ b ∷ c ∷ d ∷ []) h = absurd (omega arith)
header_cut (a ∷ b ∷ c ∷ d ∷ e ∷ []) h = absurd (omega arith)
header_cut (a ∷ b ∷ c ∷ d ∷ e ∷ f ∷ []) h = absurd (omega arith)
header_cut (a ∷ b ∷ c ∷ d ∷ e ∷ f ∷ g ∷ rest) h = refl

made : List ℕ → Write
made bytes = record {
  index = little_number 2 bytes;
  sub = slice_index bytes 2;
  bytes = take (size_at bytes) (drop 7 bytes);
}

taken : (bytes : List ℕ) → AreBytes bytes → 7 ≤ length bytes → 0 < size_at bytes → 7 + size_at bytes ≤ length bytes
    → EntryAnswer bytes (Ok (made bytes, drop (size_at bytes) (drop 7 bytes)))
unfolding made
taken bytes fits long some whole =
    let size = size_at bytes in
    let len : length (take (size_at bytes) (drop 7 bytes))
    ≡ size_at bytes = omega (arith, length-take (size_at bytes) (drop 7 bytes), length-drop 7 bytes) in
    let i : little_bytes 2 (little_number 2 bytes) ≡ take 2 bytes = spelled_again 2 bytes (omega arith) fits in
    let s : little_bytes 4 (size_at bytes) ≡ take 4 (drop 3 bytes) = spelled_again 4 (drop 3 bytes)
    (omega (arith, length-drop 3 bytes)) (AreBytes-drop 3 bytes fits) in
    let header : header_of (made bytes) ≡ take 7 bytes =
    ap (λ (n : ℕ). little_bytes 2 (little_number 2 bytes) ++ (slice_index bytes 2 ∷ little_bytes 4 n)) len
    ∙ ap (λ (x : List ℕ). x ++ (slice_index bytes 2 ∷ little_bytes 4 (size_at bytes))) i
    ∙ ap (λ (x : List ℕ). take 2 bytes ++ (slice_index bytes 2 ∷ x)) s ∙ header_cut bytes long in
    let rest = drop (size_at bytes) (drop 7 bytes) in
    let parts : bytes ≡ entry_of (made bytes) ++ rest =
    sym (append_assoc (header_of (made bytes)) (take (size_at bytes) (drop 7 bytes)) rest
    ∙ ap (λ (x : List ℕ). header_of (made bytes) ++ x) (take-append-drop (size_at bytes) (drop 7 bytes))
    ∙ ap (λ (x : List ℕ). x ++ drop 7 bytes) header ∙ take-append-drop 7 bytes) in (
      record { parts = parts; rest_fits = AreBytes-drop (size_at bytes) (drop 7 bytes) (AreBytes-drop 7 bytes fits) },
      record {
        index = little_from-lt 0 2 bytes fits;
        sub = fits 2;
        some = omega (arith, len, some);
        size = omega (arith, len, little_from-lt 0 4 (drop 3 bytes) (AreBytes-drop 3 bytes fits));
      },
    )

pub entry_answer : (bytes : List ℕ) → AreBytes bytes → EntryAnswer bytes (entry_at bytes)
unfolding entry_at made
entry_answer bytes fits =
    let read : Result (Write × List ℕ) ConciseFault = Ok (made bytes, drop (size_at bytes) (drop 7 bytes)) in
    let last : Result (Write × List ℕ) ConciseFault = cond (ltb (length bytes) (7 + size_at bytes)) (Err Short) read in
    cond_both (ltb (length bytes) 7) (Err Short) (cond (eqb (size_at bytes) 0) (Err Empty) last) (EntryAnswer bytes)
    (λ e. inl (ltb-true _ _ e))
    (λ e. cond_both (eqb (size_at bytes) 0) (Err Empty) last (EntryAnswer bytes)
    (λ none. (ltb-false _ _ e, eqb-true _ _ none))
    (λ some.
    let long : 7 ≤ length bytes = ltb-false _ _ e in
    let positive : size_at bytes ≡ 0 → ⊥ = eqb-false _ _ some in
    let above : 0 < size_at bytes = omega (arith, positive) in
    cond_both (ltb (length bytes) (7 + size_at bytes)) (Err Short) read (EntryAnswer bytes)
    (λ cut. inr (above, ltb-true _ _ cut))
    (λ whole. taken bytes fits long above (ltb-false _ _ whole))))

-- what an entry's bytes say, whatever follows them
entry_is : (bytes : List ℕ) (w : Write) (rest : List ℕ) → 7 ≤ length bytes → 0 < length w.bytes
    → little_number 2 bytes ≡ w.index → slice_index bytes 2 ≡ w.sub → size_at bytes ≡ length w.bytes
    → drop 7 bytes ≡ w.bytes ++ rest → entry_at bytes ≡ Ok (w, rest)
unfolding entry_at
entry_is bytes w rest long some index sub size behind =
    let whole : 7 + length w.bytes ≤ length bytes =
    omega (arith, length-drop 7 bytes, ap length behind, length-append w.bytes rest) in
    let e1 : ltb (length bytes) 7 ≡ false = le-ltb _ _ long in
    let e2 : eqb (length w.bytes) 0 ≡ false = ne_eqb _ _ (λ e. omega arith) in
    let e3 : ltb (length bytes) (7 + length w.bytes) ≡ false = le-ltb _ _ whole in
    rw (
      e1,
      size,
      e2,
      e3,
      index,
      sub,
      behind,
      take_at w.bytes rest (length w.bytes) refl,
      drop_at w.bytes rest (length w.bytes) refl,
    ) refl

pub entry_again : (w : Write) (rest : List ℕ) → Fits w → entry_at (entry_of w ++ rest) ≡ Ok (w, rest)
entry_again w rest fits =
    let tail = w.bytes ++ rest in
    entry_is (entry_of w ++ rest) w rest (omega (arith)) fits.some
    (little_number-reads_back 2 w.index ((w.sub ∷ little_bytes 4 (length w.bytes)) ++ tail) fits.index)
    refl
    (little_number-reads_back 4 (length w.bytes) tail fits.size)
    refl

cut_is : (a b c : Bool) (read : Result (Write × List ℕ) ConciseFault) → b ≡ false → c ≡ true
    → cond a (Err Short) (cond b (Err Empty) (cond c (Err Short) read)) ≡ Err Short
cut_is true b c read p q = refl
cut_is false b c read p q = rw (p, q) refl

pub entry_fault_again : (f : ConciseFault) (bytes : List ℕ) → EntryFault f bytes → entry_at bytes ≡ Err f
unfolding entry_at made
entry_fault_again Memory bytes h = absurd h
entry_fault_again Extra bytes h = absurd h
entry_fault_again Empty bytes h = rw (le-ltb (length bytes) 7 h.0, h.1) refl
entry_fault_again Short bytes (inl h) = rw (lt-ltb (length bytes) 7 h) refl
entry_fault_again Short bytes (inr h) =
    cut_is (ltb (length bytes) 7) (eqb (size_at bytes) 0) (ltb (length bytes) (7 + size_at bytes))
    (Ok (made bytes, drop (size_at bytes) (drop 7 bytes))) (ne_eqb _ _ (λ e. omega arith)) (lt-ltb _ _ h.1)
