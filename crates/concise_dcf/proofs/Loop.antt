-- Reading entries one after the other, as a loop does.
use Rattle.std.proofs.Common.{◌≡◌, ℕ, suc, ◌-◌, ◌+◌, ◌≤◌, ◌<◌, List, [], ◌∷◌, ◌++◌, Result, Ok, Err, refl, sym, ap, ◌∙◌}
use Rattle.std.proofs.Common.{arith}
use Rattle.std.proofs.lemmas.List.{append-nil}
use Rattle.concise_dcf.specs.declared.write.Write.{Write}
use Rattle.concise_dcf.specs.declared.fault.ConciseFault.{ConciseFault}
use Rattle.concise_dcf.specs.declared.fault.ConciseFault.TheVariants.{Memory, Short, Extra, Empty}
use Rattle.concise_dcf.specs.Reading.{entry_at, entries_at}
use Rattle.concise_dcf.specs.Concise.{is_memory}
use Rattle.std.specs.Bool.{OnFalse}
use Rattle.concise_dcf.proofs.Entries.{with_front, regroup}

pub goes_on : (front : List Write) (count i : ℕ) (bytes : List ℕ) (w : Write) (after : List ℕ)
    (total : Result (List Write × List ℕ) ConciseFault) → i < count → entry_at bytes ≡ Ok (w, after)
    → with_front front (entries_at (count - i) bytes) ≡ total
    → with_front (front ++ w ∷ []) (entries_at (count - (i + 1)) after) ≡ total
unfolding entries_at
goes_on front count i bytes w after total lt h so_far =
    let k : count - i ≡ suc (count - (i + 1)) = omega arith in
    let one : with_front front (entries_at (count - i) bytes) ≡ with_front (front ++ w ∷ [])
    (entries_at (count - (i + 1)) after) = rw (k, h) (regroup front w (entries_at (count - (i + 1)) after)) in
    sym one ∙ so_far

stopped : (f : ConciseFault) (front : List Write) (count i : ℕ) (bytes : List ℕ)
    (total : Result (List Write × List ℕ) ConciseFault) → i < count → entry_at bytes ≡ Err f
    → with_front front (entries_at (count - i) bytes) ≡ total → total ≡ Err f
unfolding entries_at
stopped f front count i bytes total lt h so_far =
    let k : count - i ≡ suc (count - (i + 1)) = omega arith in
    let one : with_front front (entries_at (count - i) bytes) ≡ Err f = rw (k, h) refl in
    sym so_far ∙ one

pub ends : (e : ConciseFault) (front : List Write) (count i : ℕ) (bytes : List ℕ)
    (total : Result (List Write × List ℕ) ConciseFault) → i < count → OnFalse (is_memory e) (entry_at bytes ≡ Err e)
    → with_front front (entries_at (count - i) bytes) ≡ total → OnFalse (is_memory e) (total ≡ Err e)
ends Memory front count i bytes total lt h so_far = tt
ends Short front count i bytes total lt h so_far = stopped Short front count i bytes total lt h so_far
ends Extra front count i bytes total lt h so_far = stopped Extra front count i bytes total lt h so_far
ends Empty front count i bytes total lt h so_far = stopped Empty front count i bytes total lt h so_far

pub is_done : (front : List Write) (count i : ℕ) (bytes : List ℕ) (total : Result (List Write × List ℕ) ConciseFault)
    → count ≤ i → with_front front (entries_at (count - i) bytes) ≡ total → total ≡ Ok (front, bytes)
unfolding entries_at
is_done front count i bytes total le so_far =
    let k : count - i ≡ 0 = omega arith in
    let one : with_front front (entries_at (count - i) bytes)
    ≡ Ok (front, bytes) = rw k (ap (λ (ws : List Write). Ok (ws, bytes)) (append-nil front)) in
    sym so_far ∙ one
