-- The last write to an entry, as writes come one by one.
use Rattle.std.proofs.Common.{◌≡◌, ℕ, ◌+◌, ◌<◌, Bool, true, false, cond, ◌==◌, ◌&&◌, List, [], ◌∷◌, ◌++◌, length}
use Rattle.std.proofs.Common.{◌%◌, ◌≢◌, get_or, set, take, reverse, Option, None, Some, option_map, refl, sym, ap, ◌∙◌}
use Rattle.std.proofs.Common.{arith}
use Rattle.std.proofs.lemmas.Bool.{eq-eqb, eqb-true, false≢true, ne_eqb}
use Rattle.std.proofs.lemmas.Grind.{get_or-set_at}
use Rattle.std.proofs.lemmas.List.{get_or-set_other, reverse-append, take_more}
use Rattle.std.proofs.lemmas.Bool.Decides.{nat_tests}
use Rattle.std.specs.declared.cmp.Ordering.{Ordering}
use Rattle.std.specs.declared.cmp.Ordering.TheVariants.{Less, Equal, Greater}
use Rattle.std.specs.FinMap.{empty, get, get-empty, get-insert, insert}
use Rattle.std.specs.List.{find}
use Rattle.std.specs.Ordering.{eq_by_cmp, is_eq, nat_cmp, ordering_then}
use Rattle.concise_dcf.specs.declared.write.Write.{Write}
use Rattle.co_dict.proofs.PlaceLemmas.{places_total}
use Rattle.co_dict.specs.Places.{place_cmp}
use Rattle.co_dict.specs.Values.{Values}
use Rattle.eds_dcf.specs.Template.{Tells}
use Rattle.eds_dcf.specs.Writes.{is_to, last_of}

bytes_found : (t : Bool) (write : Write) (later : Option Write)
    → option_map (λ (w : Write). w.bytes) (cond t (Some write) later) ≡ cond t (Some write.bytes)
    (option_map (λ (w : Write). w.bytes) later)
bytes_found true write later = refl
bytes_found false write later = refl

-- one more write is the last one to its entry
pub last_of-push : (writes : List Write) (write : Write) (place : ℕ × ℕ)
    → last_of (writes ++ write ∷ []) place ≡ cond (is_to place write) (Some write.bytes) (last_of writes place)
unfolding last_of
last_of-push writes write place =
    ap (λ ws. option_map (λ (w : Write). w.bytes) (find (is_to place) ws)) (reverse-append writes (write ∷ []))
    ∙ bytes_found (is_to place write) write (find (is_to place) (reverse writes))

both_equal : (r s : Ordering) → is_eq (ordering_then r s) ≡ (is_eq r && is_eq s)
both_equal Less s = refl
both_equal Equal s = refl
both_equal Greater s = refl

equal_numbers : (a b : ℕ) → is_eq (nat_cmp a b) ≡ (a == b)
equal_numbers a b = grind (arith, nat_tests)

is_to_place : (place : ℕ × ℕ) (write : Write) → eq_by_cmp place_cmp place (write.index, write.sub) ≡ is_to place write
is_to_place place write =
    both_equal (nat_cmp place.0 write.index) (nat_cmp place.1 write.sub)
    ∙ ap (λ t. t && is_eq (nat_cmp place.1 write.sub)) (equal_numbers place.0 write.index)
    ∙ ap (λ t. (place.0 == write.index) && t) (equal_numbers place.1 write.sub)

-- no write leaves nothing
pub none_left : (values : Values) → values ≡ empty → (place : ℕ × ℕ) → get values place ≡ last_of [] place
unfolding last_of
none_left values is place = ap (λ m. get m place) is ∙ get-empty place_cmp place

-- and one more leaves its bytes
pub one_more_left : (writes : List Write) (values after : Values) (write : Write)
    → ((place : ℕ × ℕ) → get values place ≡ last_of writes place)
    → after ≡ insert values (write.index, write.sub) write.bytes → (place : ℕ × ℕ)
    → get after place ≡ last_of (writes ++ write ∷ []) place
one_more_left writes values after write left is place =
    ap (λ m. get m place) is
    ∙ get-insert places_total values (write.index, write.sub) write.bytes place
    ∙ ap (λ t. cond t (Some write.bytes) (get values place)) (is_to_place place write)
    ∙ ap (cond (is_to place write) (Some write.bytes)) (left place)
    ∙ sym (last_of-push writes write place)

pub one_more_at : (writes : List Write) (i : ℕ) (write : Write) (values after : Values) (place : ℕ × ℕ) (bytes : List ℕ)
    → i < length writes → write ≡ get_or writes i write
    → place.0 ≡ write.index → place.1 ≡ write.sub → bytes ≡ write.bytes
    → ((place : ℕ × ℕ) → get values place ≡ last_of (take i writes) place)
    → after ≡ insert values place bytes → (q : ℕ × ℕ) → get after q ≡ last_of (take (i + 1) writes) q
one_more_at writes i write values after place bytes within is_write index sub is_bytes left is q =
    let here : place ≡ (write.index, write.sub) = λ j. (index j, sub j) in
    one_more_left (take i writes) values after write left (is ∙ ap (λ p. insert values p bytes) here
    ∙ ap (insert values (write.index, write.sub)) is_bytes) q
    ∙ ap (λ w. last_of (take i writes ++ w ∷ []) q) is_write
    ∙ ap (λ ws. last_of ws q) (sym (take_more writes i write within))

-- ---- flags by index

-- no entry has a value
pub nothing_at : (values : Values) → values ≡ empty → (place : ℕ × ℕ) → get values place ≡ None
nothing_at values is place = ap (λ (m : Values). get m place) is ∙ get-empty place_cmp place

-- one more value, with its flag
pub one_more_told : (flags : List Bool) (values after : Values) (place : ℕ × ℕ) (bytes : List ℕ)
    (n : ℕ) → n ≡ place.0 → length flags ≡ 4096 → after ≡ insert values place bytes → Tells flags (get values)
    → Tells (set flags (n % 4096) true) (get after)
one_more_told flags values after place bytes n at full is told = λ index sub clear.
    by index sub clear (index % 4096 == n % 4096) refl
  where
    apart : (index sub : ℕ) → (index ≡ place.0 → ⊥) → eq_by_cmp place_cmp (index, sub) place ≡ false
    apart index sub other =
        is_to_place (index, sub) (record { index = place.0; sub = place.1; bytes = bytes })
        ∙ ap (λ t. t && (sub == place.1)) (ne_eqb index place.0 other)

    by : (index sub : ℕ) → get_or (set flags (n % 4096) true) (index % 4096) false ≡ false → (t : Bool)
        → (index % 4096 == n % 4096) ≡ t → get after (index, sub) ≡ None
    by index sub clear true e =
        let here : index % 4096 ≡ n % 4096 = eqb-true (index % 4096) (n % 4096) e in
        let within : n % 4096 < length flags = omega arith in
        let set_there : true ≡ false = sym (get_or-set_at flags (n % 4096) (index % 4096) true false here within)
        ∙ clear in
        absurd (cc)
    by index sub clear false e =
        let other : index % 4096 ≢ n % 4096 = λ same. false≢true (sym e ∙ eq-eqb (index % 4096) (n % 4096) same) in
        ap (λ (m : Values). get m (index, sub)) is ∙ get-insert places_total values place bytes (index, sub)
        ∙ ap (λ t. cond t (Some bytes) (get values (index, sub)))
        (apart index sub (λ same. other (ap (λ m. m % 4096) (same ∙ sym at))))
        ∙ told index sub (sym (get_or-set_other flags (n % 4096) (index % 4096) true false other) ∙ clear)
