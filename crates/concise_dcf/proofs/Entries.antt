-- Lists of entries, and the whole text: the two laws, and the faults.
use Rattle.std.proofs.Common.{◌≡◌, ℕ, zero, suc, ◌+◌, ◌-◌, ◌<◌, ◌≤◌, ◌⊎◌, false, cond, ltb, eqb, List, [], ◌∷◌, ◌++◌}
use Rattle.std.proofs.Common.{length, take, drop, Result, Ok, Err, refl, sym, ap, subst, ◌∙◌, append_assoc, arith, inl}
use Rattle.std.proofs.Common.{inr}
use Rattle.std.specs.Prelude.{IfOk, IfErr}
use Rattle.std.specs.Global.{Vec}
use Rattle.std.specs.List.{AllByRecursion}
use Rattle.std.proofs.lemmas.Bool.{cond_both, ltb-true, ltb-false, lt-ltb, le-ltb, ne_eqb}
use Rattle.std.proofs.lemmas.List.{append-nil, take-append-drop}
use Rattle.std.proofs.lemmas.List.Concat.{flat_map-cons}
use Rattle.byteorder.specs.Endian.{little_bytes, little_number}
use Rattle.byteorder.specs.Numbers.{little_number-reads_back, little_from-lt}
use Rattle.concise_dcf.specs.declared.write.Write.{Write}
use Rattle.concise_dcf.specs.declared.fault.ConciseFault.{ConciseFault}
use Rattle.concise_dcf.specs.declared.fault.ConciseFault.TheVariants.{Memory, Short, Extra, Empty}
use Rattle.concise_dcf.specs.Concise.{entry_of, entries_of, text_of, Fits, IsTextOf, Begins, StopsAt, HasFault}
use Rattle.concise_dcf.specs.Concise.{is_memory}
use Rattle.base.specs.Gives.{Gives}
use Rattle.concise_dcf.specs.Reading.{entry_at, entries_at, all_of}
use Rattle.base.specs.Steps.{◌>>=◌}
use Rattle.base.proofs.Little.{spelled_again}
use Rattle.base.specs.Bytes.{AreBytes}
use Rattle.concise_dcf.proofs.Entry.{AreBytes-drop, Takes, Takes-then, EntryFault, EntryAnswer, entry_answer}
use Rattle.concise_dcf.proofs.Entry.{entry_again, entry_fault_again}

abbrev Read : Type 0
Read = Result (List Write × List ℕ) ConciseFault

-- after whole entries, fewer than n, comes one with a fault
record Stops (n : ℕ) (bytes : List ℕ) (f : ConciseFault) : Type 0 where
  ws : List Write
  rest : List ℕ
  parts : bytes ≡ entries_of ws ++ rest
  fits : AllByRecursion Fits ws
  fewer : length ws < n
  fault : EntryFault f rest

record Reads (n : ℕ) (bytes : List ℕ) (ws : List Write) (rest : List ℕ) : Type 0 where
  takes : Takes bytes (entries_of ws) rest
  count : length ws ≡ n
  fits : AllByRecursion Fits ws

abbrev EntriesAnswer : ℕ → List ℕ → Read → Type 0
EntriesAnswer n bytes (Ok x) = Reads n bytes x.0 x.1
EntriesAnswer n bytes (Err f) = Stops n bytes f

joined : (n : ℕ) (bytes : List ℕ) (w : Write) (rest : List ℕ) → Takes bytes (entry_of w) rest → Fits w → (others : Read)
    → EntriesAnswer n rest others
    → EntriesAnswer (suc n) bytes (others >>= λ o. Ok (w ∷ o.0, o.1))
joined n bytes w rest takes fits (Ok o) h = record {
  takes = rw (flat_map-cons entry_of w o.0) (Takes-then bytes (entry_of w) rest (entries_of o.0) o.1 takes h.takes);
  count = ap suc h.count;
  fits = (fits, h.fits);
}
joined n bytes w rest takes fits (Err f) h = record {
  ws = w ∷ h.ws;
  rest = h.rest;
  parts = takes.parts ∙ ap (λ (x : List ℕ). entry_of w ++ x) h.parts
      ∙ sym (append_assoc (entry_of w) (entries_of h.ws) h.rest)
      ∙ ap (λ (x : List ℕ). x ++ h.rest) (sym (flat_map-cons entry_of w h.ws));
  fits = (fits, h.fits);
  fewer = omega (arith, h.fewer);
  fault = h.fault;
}

stepped : (n : ℕ) (bytes : List ℕ) (first : Result (Write × List ℕ) ConciseFault) → EntryAnswer bytes first
    → ((x : List ℕ) → AreBytes x → EntriesAnswer n x (entries_at n x))
    → EntriesAnswer (suc n) bytes (first >>= λ w. entries_at n w.1 >>= λ o. Ok (w.0 ∷ o.0, o.1))
stepped n bytes (Ok x) h more = joined n bytes x.0 x.1 h.0 h.1 (entries_at n x.1) (more x.1 h.0.rest_fits)
stepped n bytes (Err f) h more = record {
  ws = [];
  rest = bytes;
  parts = refl;
  fits = tt;
  fewer = omega arith;
  fault = h;
}

entries_answer : (n : ℕ) (bytes : List ℕ) → AreBytes bytes → EntriesAnswer n bytes (entries_at n bytes)
unfolding entries_at
entries_answer zero bytes fits = record { takes = record { parts = refl; rest_fits = fits }; count = refl; fits = tt }
entries_answer (suc n) bytes fits = stepped n bytes (entry_at bytes) (entry_answer bytes fits)
    (λ x xfits. entries_answer n x xfits)

-- what was read before, and what is still read
abbrev pub with_front : List Write → Read → Read
with_front front read = read >>= λ x. Ok (front ++ x.0, x.1)

pub regroup : (front : List Write) (w : Write) (read : Read)
    → with_front front (read >>= λ x. Ok (w ∷ x.0, x.1)) ≡ with_front (front ++ w ∷ []) read
regroup front w (Ok x) = ap (λ (ws : List Write). Ok (ws, x.1)) (simp append_assoc)
regroup front w (Err f) = refl

deeper : (w : Write) (front : List Write) (read : Read)
    → (with_front front read >>= λ x. Ok (w ∷ x.0, x.1)) ≡ with_front (w ∷ front) read
deeper w front (Ok x) = refl
deeper w front (Err f) = refl

nothing : (read : Read) → with_front [] read ≡ read
nothing (Ok x) = refl
nothing (Err f) = refl

-- whole entries at the front are read
entries_again : (ws : List Write) (k : ℕ) (rest : List ℕ) → AllByRecursion Fits ws
    → entries_at (length ws + k) (entries_of ws ++ rest) ≡ with_front ws (entries_at k rest)
unfolding entries_at
entries_again [] k rest fits = let same : 0 + k ≡ k = omega arith
    in ap (λ (n : ℕ). entries_at n rest) same ∙ sym (nothing (entries_at k rest))
entries_again (w ∷ ws) k rest fits =
    let number : suc (length ws) + k ≡ suc (length ws + k) = omega arith in
    let parts : entries_of (w ∷ ws) ++ rest ≡ entry_of w ++ (entries_of ws ++ rest) = ap (λ (x : List ℕ). x ++ rest)
    (flat_map-cons entry_of w ws) ∙ append_assoc (entry_of w) (entries_of ws) rest in
    let step : entries_at (suc (length ws + k)) (entry_of w ++ (entries_of ws ++ rest))
    ≡ (entries_at (length ws + k) (entries_of ws ++ rest) >>= λ o. Ok (w ∷ o.0, o.1)) =
    ap (λ (r : Result (Write × List ℕ) ConciseFault). r >>= λ f. entries_at (length ws + k) f.1 >>= λ o. Ok (
      f.0 ∷ o.0,
      o.1,
    )) (entry_again w (entries_of ws ++ rest) fits.0) in
    ap (λ (n : ℕ). entries_at n (entries_of (w ∷ ws) ++ rest)) number ∙ ap (entries_at (suc (length ws + k))) parts
    ∙ step
    ∙ ap (λ (r : Read). r >>= λ o. Ok (w ∷ o.0, o.1)) (entries_again ws k rest fits.1) ∙ deeper w ws (entries_at k rest)

abbrev ending : Read → Result (List Write) ConciseFault
ending read = read >>= λ x. cond (eqb (length x.1) 0) (Ok x.0) (Err Extra)

left : (ws : List Write) (b : ℕ) (more : List ℕ) → ending (Ok (ws, b ∷ more)) ≡ Err Extra
left ws b more = let some : eqb (length (b ∷ more)) 0 ≡ false = ne_eqb _ _ (λ e. omega arith) in rw some refl

abbrev AllAnswer : List ℕ → Result (List Write) ConciseFault → Type 0
AllAnswer bytes (Ok ws) = IsTextOf ws bytes
AllAnswer bytes (Err f) = HasFault f bytes

begun : (bytes : List ℕ) (ws : List Write) (rest : List ℕ) → AreBytes bytes → 4 ≤ length bytes → AllByRecursion Fits ws
    → drop 4 bytes ≡ entries_of ws ++ rest → Begins bytes (little_number 4 bytes) ws rest
begun bytes ws rest bfits long fits parts = record {
  count_fits = little_from-lt 0 4 bytes bfits;
  fits = fits;
  whole = sym (ap (λ (x : List ℕ). x ++ (entries_of ws ++ rest)) (spelled_again 4 bytes long bfits)
      ∙ ap (λ (x : List ℕ). take 4 bytes ++ x) (sym parts) ∙ take-append-drop 4 bytes);
}

ended : (bytes : List ℕ) (read : Read) → AreBytes bytes → 4 ≤ length bytes
    → EntriesAnswer (little_number 4 bytes) (drop 4 bytes) read → AllAnswer bytes (ending read)
ended bytes (Ok x) bfits long h = elim x.1 as (λ rest. Reads (little_number 4 bytes) (drop 4 bytes) x.0 rest
    → AllAnswer bytes (ending (Ok (x.0, rest)))) [
      | [] ↦ λ g.
          let b = begun bytes x.0 [] bfits long g.fits g.takes.parts in
          let text : bytes ≡ text_of x.0 = b.whole ∙ ap (λ (t : List ℕ). little_bytes 4 (little_number 4 bytes) ++ t)
          (append-nil (entries_of x.0)) ∙ ap (λ (n : ℕ). little_bytes 4 n ++ entries_of x.0) (sym g.count) in
          ((omega (arith, g.count, b.count_fits), g.fits), text)
      | b ∷ more ↦ λ g. subst (AllAnswer bytes) (sym (left x.0 b more)) (
        x.0,
        b,
        more,
        subst (λ (n : ℕ). Begins bytes n x.0 (b ∷ more)) (sym g.count)
            (begun bytes x.0 (b ∷ more) bfits long g.fits g.takes.parts),
      )
    ] h
ended bytes (Err Memory) bfits long h = h.fault
ended bytes (Err Extra) bfits long h = absurd h.fault
ended bytes (Err Short) bfits long h = inr (
  little_number 4 bytes,
  h.ws,
  h.rest,
  begun bytes h.ws h.rest bfits long h.fits h.parts,
  h.fewer,
  h.fault,
)
ended bytes (Err Empty) bfits long h = (
  little_number 4 bytes,
  h.ws,
  h.rest,
  begun bytes h.ws h.rest bfits long h.fits h.parts,
  h.fewer,
  h.fault,
)

pub all_answer : (bytes : List ℕ) → AreBytes bytes → AllAnswer bytes (all_of bytes)
unfolding all_of
all_answer bytes fits = cond_both (ltb (length bytes) 4) (Err Short)
    (ending (entries_at (little_number 4 bytes) (drop 4 bytes))) (AllAnswer bytes)
    (λ e. inl (ltb-true _ _ e))
    (λ e. ended bytes (entries_at (little_number 4 bytes) (drop 4 bytes)) fits (ltb-false _ _ e)
    (entries_answer (little_number 4 bytes) (drop 4 bytes) (AreBytes-drop 4 bytes fits)))

-- reading goes on behind whole entries
begins_read : (bytes : List ℕ) (ws : List Write) (k : ℕ) (rest : List ℕ) → Begins bytes (length ws + k) ws rest
    → all_of bytes ≡ ending (with_front ws (entries_at k rest))
unfolding all_of
begins_read bytes ws k rest b =
    let tail = entries_of ws ++ rest in
    let long : ltb (length (little_bytes 4 (length ws + k) ++ tail)) 4 ≡ false = le-ltb _ _ (omega arith) in
    let count : little_number 4 (little_bytes 4 (length ws + k) ++ tail)
    ≡ length ws + k = little_number-reads_back 4 (length ws + k) tail b.count_fits in
    let all : all_of (little_bytes 4 (length ws + k) ++ tail)
    ≡ ending (entries_at (little_number 4 (little_bytes 4 (length ws + k) ++ tail)) tail) = rw long refl in
    ap all_of b.whole ∙ all ∙ ap (λ (n : ℕ). ending (entries_at n tail)) count
    ∙ ap ending (entries_again ws k rest b.fits)

pub text_again : (ws : List Write) (bytes : List ℕ) → IsTextOf ws bytes → all_of bytes ≡ Ok ws
unfolding entries_at
text_again ws bytes h =
    let same : length ws ≡ length ws + 0 = omega arith in
    let whole : bytes ≡ little_bytes 4 (length ws) ++ (entries_of ws ++ []) = h.1
    ∙ ap (λ (t : List ℕ). little_bytes 4 (length ws) ++ t) (sym (append-nil (entries_of ws))) in
    let b : Begins bytes (length ws) ws [] = record { count_fits = h.0.0; fits = h.0.1; whole = whole } in
    begins_read bytes ws 0 [] (subst (λ (n : ℕ). Begins bytes n ws []) same b)
    ∙ ap (λ (v : List Write). ending (Ok (v, []))) (append-nil ws)

stops_again : (f : ConciseFault) (bytes : List ℕ) → StopsAt (EntryFault f) bytes → all_of bytes ≡ Err f
unfolding entries_at
stops_again f bytes h =
    let count = h.0 in
    let ws = h.1 in
    let rest = h.2 in
    let fewer : length ws < count = h.4 in
    let same : count ≡ length ws + suc (count - length ws - 1) = omega arith in
    let stop : entries_at (suc (count - length ws - 1)) rest
    ≡ Err f =
    ap (λ (r : Result (Write × List ℕ) ConciseFault). r >>= λ w. entries_at (count - length ws - 1) w.1 >>= λ o. Ok
    (w.0 ∷ o.0, o.1)) (entry_fault_again f rest h.5) in
    begins_read bytes ws (suc (count - length ws - 1)) rest (subst (λ (n : ℕ). Begins bytes n ws rest) same h.3)
    ∙ ap (λ (r : Read). ending (with_front ws r)) stop

pub fault_again : (f : ConciseFault) (bytes : List ℕ) → HasFault f bytes → all_of bytes ≡ Err f
unfolding all_of entries_at
fault_again Memory bytes h = absurd h
fault_again Short bytes (inl h) = rw (lt-ltb (length bytes) 4 h) refl
fault_again Short bytes (inr h) = stops_again Short bytes h
fault_again Empty bytes h = stops_again Empty bytes h
fault_again Extra bytes h =
    let same : length h.0 ≡ length h.0 + 0 = omega arith in
    begins_read bytes h.0 0 (h.1 ∷ h.2) (subst (λ (n : ℕ). Begins bytes n h.0 (h.1 ∷ h.2)) same h.3)
    ∙ left (h.0 ++ []) h.1 h.2

-- what `decode` answers, by what reading gives
pub is_found : (bytes : List ℕ) (r : Result (Vec Write) ConciseFault) → AreBytes bytes
    → Gives is_memory (λ v. v.items) r (all_of bytes) → IfOk r (λ v. IsTextOf v.items bytes)
is_found bytes (Ok v) fits given = subst (AllAnswer bytes) given (all_answer bytes fits)
is_found bytes (Err e) fits given = tt

pub is_fault : (bytes : List ℕ) (r : Result (Vec Write) ConciseFault) → AreBytes bytes
    → Gives is_memory (λ v. v.items) r (all_of bytes) → IfErr r (λ f. (f ≡ Memory → ⊥) → HasFault f bytes)
is_fault bytes (Ok v) fits given = tt
is_fault bytes (Err Memory) fits given = λ no. absurd (no refl)
is_fault bytes (Err Short) fits given = λ no. subst (AllAnswer bytes) given (all_answer bytes fits)
is_fault bytes (Err Extra) fits given = λ no. subst (AllAnswer bytes) given (all_answer bytes fits)
is_fault bytes (Err Empty) fits given = λ no. subst (AllAnswer bytes) given (all_answer bytes fits)

pub one_list : (ws vs : List Write) (a : List ℕ) → IsTextOf ws a → IsTextOf vs a → ws ≡ vs
one_list ws vs a h g = let e : all_of a ≡ Ok ws = text_again ws a h in let f : all_of a ≡ Ok vs = text_again vs a g
    in cc

pub no_front : (ws vs : List Write) (a more : List ℕ) → IsTextOf ws a → IsTextOf vs (a ++ more) → more ≡ []
no_front ws vs a [] h g = refl
no_front ws vs a (b ∷ more) h g =
    let whole : a ++ (b ∷ more) ≡ little_bytes 4 (length ws) ++ (entries_of ws ++ (b ∷ more)) =
    ap (λ (t : List ℕ). t ++ (b ∷ more)) h.1 ∙ append_assoc (little_bytes 4 (length ws)) (entries_of ws) (b ∷ more)
    in
    let begins : Begins (a ++ (b ∷ more)) (length ws) ws (b ∷ more) =
    record { count_fits = h.0.0; fits = h.0.1; whole = whole } in
    let e : all_of (a ++ (b ∷ more)) ≡ Err Extra = fault_again Extra (a ++ (b ∷ more)) (ws, b, more, begins) in
    let f : all_of (a ++ (b ∷ more)) ≡ Ok vs = text_again vs (a ++ (b ∷ more)) g in
    absurd cc

text_or_fault_of : (bytes : List ℕ) (read : Result (List Write) ConciseFault) → AllAnswer bytes read
    → ((writes : List Write) × IsTextOf writes bytes) ⊎ ((f : ConciseFault) × HasFault f bytes)
text_or_fault_of bytes (Ok ws) h = inl (ws, h)
text_or_fault_of bytes (Err f) h = inr (f, h)

pub text_or_fault : (bytes : List ℕ) → AreBytes bytes → ((writes : List Write) × IsTextOf writes bytes)
    ⊎ ((f : ConciseFault) × HasFault f bytes)
text_or_fault bytes fits = text_or_fault_of bytes (all_of bytes) (all_answer bytes fits)

pub not_text_and_fault : (ws : List Write) (f : ConciseFault) (bytes : List ℕ) → IsTextOf ws bytes → HasFault f bytes
    → ⊥
not_text_and_fault ws f bytes h g = let e : all_of bytes ≡ Ok ws = text_again ws bytes h
    in let r : all_of bytes ≡ Err f = fault_again f bytes g in cc

pub one_fault : (f g : ConciseFault) (bytes : List ℕ) → HasFault f bytes → HasFault g bytes → f ≡ g
one_fault f g bytes h i = let e : all_of bytes ≡ Err f = fault_again f bytes h
    in let r : all_of bytes ≡ Err g = fault_again g bytes i in cc
