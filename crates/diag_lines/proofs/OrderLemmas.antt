-- The derived order is that of the words.
use Rattle.std.proofs.Common.{◌≡◌, ℕ, ◌-◌, true, refl, List, [], ◌∷◌, Some, None, get_or, ap, subst, sym, ◌∙◌}
use Rattle.std.specs.declared.cmp.Ordering.{Ordering}
use Rattle.std.specs.declared.cmp.Ordering.TheVariants.{Less, Equal, Greater}
use Rattle.std.specs.Ordering.{nat_cmp, ordering_then, is_eq, eq_by_cmp}
use Rattle.std.specs.Cmp.{IsTotalOrder}
use Rattle.std.specs.List.{dedup}
use Rattle.std.specs.List.Sorted.{IsSorted, IsStrictlySortedBy}
use Rattle.std.proofs.lemmas.List.Kept.{IsStrictlySortedBy-dedup}
use Rattle.std.proofs.lemmas.Map.Lookups.{CmpEqualImpliesEq, exact_unsigned, exact_bytes}
use Rattle.std.specs.Cmp.Lexicographic.{slice_cmp}
use Rattle.diag_lines.specs.declared.code.Code.{Code}
use Rattle.diag_lines.specs.declared.code.Code.TheVariants.{NoEntry, Unreadable, OutsideLimits, NotWritable, NoObjects}
use Rattle.diag_lines.specs.declared.code.Code.TheVariants.{TpdoTaken, TooManyBits, NotMappable, Mismatched, NoRpdo}
use Rattle.diag_lines.specs.declared.code.Code.TheVariants.{NoDummy, BadIdentifier, NoIdentifier, ReservedType}
use Rattle.diag_lines.specs.declared.code.Code.TheVariants.{SharedIdentifier, NotModelled, RemoteType, NoSync}
use Rattle.diag_lines.specs.declared.code.Code.TheVariants.{UnfitConsumer, SkippedLine, OtherCounter, UnreachedStart}
use Rattle.diag_lines.specs.declared.code.Code.TheVariants.{UnplannedTpdo, UnplannedRpdo, BesideLimits, UselessReceive}
use Rattle.diag_lines.specs.declared.code.Code.TheVariants.{IdleEvent, OtherHeartbeat}
use Rattle.diag_lines.specs.declared.subject.Subject.{Subject}
use Rattle.diag_lines.specs.declared.subject.Subject.TheVariants.{Cob, Default, Eds, Event, Limit, Message, Node, Param}
use Rattle.diag_lines.specs.declared.subject.Subject.TheVariants.{Receive, Rpdo, Tpdo}
use Rattle.diag_lines.specs.declared.diag.Diag.{Diag}
use Rattle.diag_lines.specs.contracts.subject.SubjectOrd.TheImpl as subject_ord
use Rattle.diag_lines.specs.contracts.diag.DiagOrd.TheImpl as diag_ord
use Rattle.diag_lines.specs.contracts.diag.DiagPartialEq.TheImpl as diag_eq
use Rattle.diag_lines.specs.contracts.diag.DiagOrd.TheImpl.Laws.{total-law, matches_eq-law}
use Rattle.diag_lines.specs.Codes.{number_of}
use Rattle.diag_lines.specs.Order.{word_cmp, words_of, diag_cmp}

then_equal : (o : Ordering) → o ≡ ordering_then o Equal
then_equal Less = refl
then_equal Equal = refl
then_equal Greater = refl

subject_same : (a b : Subject) → (subject_ord.ghosts).cmp a b ≡ slice_cmp word_cmp (words_of a) (words_of b)
subject_same (Cob a) (Cob b) = then_equal (nat_cmp a b)
subject_same (Default a b c) (Default d e f) = ap (λ o. ordering_then (nat_cmp a d) (ordering_then (nat_cmp b e) o))
    (then_equal (nat_cmp c f))
subject_same (Eds a m) (Eds b n) = ap (λ o. ordering_then (slice_cmp nat_cmp a b) o) (then_equal (nat_cmp m n))
subject_same (Event a) (Event b) = then_equal (nat_cmp a b)
subject_same (Limit a b c) (Limit d e f) = ap (λ o. ordering_then (nat_cmp a d) (ordering_then (nat_cmp b e) o))
    (then_equal (nat_cmp c f))
subject_same (Message a) (Message b) = then_equal (slice_cmp nat_cmp a b)
subject_same (Node a None) (Node b None) = refl
subject_same (Node a None) (Node b (Some n)) = refl
subject_same (Node a (Some m)) (Node b None) = refl
subject_same (Node a (Some m)) (Node b (Some n)) = ap (λ o. ordering_then (nat_cmp a b) o) (then_equal (nat_cmp m n))
subject_same (Param a b c) (Param d e f) = ap (λ o. ordering_then (nat_cmp a d) (ordering_then (nat_cmp b e) o))
    (then_equal (nat_cmp c f))
subject_same (Receive a m) (Receive b n) = ap (λ o. ordering_then (slice_cmp nat_cmp a b) o) (then_equal (nat_cmp m n))
subject_same (Rpdo a m) (Rpdo b n) = ap (λ o. ordering_then (nat_cmp a b) o) (then_equal (nat_cmp m n))
subject_same (Tpdo a m) (Tpdo b n) = ap (λ o. ordering_then (nat_cmp a b) o) (then_equal (nat_cmp m n))
subject_same a b = refl

-- the order of the type is that of the words
pub same_cmp : (diag_ord.ghosts).cmp ≡ diag_cmp
unfolding diag_cmp
same_cmp = λ i a b. ordering_then (nat_cmp (number_of a.code) (number_of b.code)) (subject_same a.subject b.subject i)

pub diag_total : IsTotalOrder diag_cmp
diag_total = subst IsTotalOrder same_cmp total-law

-- ---- diagnostics that compare alike are one

then_both : (o p : Ordering) → ordering_then o p ≡ Equal → (o ≡ Equal) × (p ≡ Equal)
then_both Less p e = cc
then_both Equal p e = (refl, e)
then_both Greater p e = cc

-- the codes by their numbers
all_codes : List Code
all_codes =
    NoEntry ∷ Unreadable ∷ OutsideLimits ∷ NotWritable ∷ NoObjects ∷ TpdoTaken ∷ TooManyBits ∷ NotMappable ∷ Mismatched
    ∷ NoRpdo
    ∷ NoDummy ∷ BadIdentifier ∷ NoIdentifier ∷ ReservedType ∷ SharedIdentifier ∷ NotModelled ∷ RemoteType ∷ NoSync
    ∷ UnfitConsumer ∷ SkippedLine ∷ OtherCounter ∷ UnreachedStart ∷ UnplannedTpdo ∷ UnplannedRpdo ∷ IdleEvent
    ∷ BesideLimits ∷ OtherHeartbeat ∷ UselessReceive ∷ []

its_code : (a : Code) → get_or all_codes (number_of a - 1) NoEntry ≡ a
unfolding number_of all_codes
its_code NoEntry = refl
its_code other = refl

code_exact : (a b : Code) → nat_cmp (number_of a) (number_of b) ≡ Equal → a ≡ b
code_exact a b e = sym (its_code a) ∙ ap (λ n. get_or all_codes (n - 1) NoEntry)
    (exact_unsigned (number_of a) (number_of b) e) ∙ its_code b

three_exact : (a b c d e f : ℕ) → ordering_then (nat_cmp a d) (ordering_then (nat_cmp b e) (nat_cmp c f)) ≡ Equal
    → (a ≡ d) × (b ≡ e) × (c ≡ f)
three_exact a b c d e f h =
    let one = then_both (nat_cmp a d) (ordering_then (nat_cmp b e) (nat_cmp c f)) h in
    let two = then_both (nat_cmp b e) (nat_cmp c f) one.1 in
    (exact_unsigned a d one.0, exact_unsigned b e two.0, exact_unsigned c f two.1)

subject_exact : (a b : Subject) → (subject_ord.ghosts).cmp a b ≡ Equal → a ≡ b
subject_exact (Cob a) (Cob b) e = ap Cob (exact_unsigned a b e)
subject_exact (Default a b c) (Default d e f) h = let same = three_exact a b c d e f h
    in λ i. Default (same.0 i) (same.1 i) (same.2 i)
subject_exact (Eds a m) (Eds b n) e = let both = then_both (slice_cmp nat_cmp a b) (nat_cmp m n) e
    in λ i. Eds (exact_bytes a b both.0 i) (exact_unsigned m n both.1 i)
subject_exact (Event a) (Event b) e = ap Event (exact_unsigned a b e)
subject_exact (Limit a b c) (Limit d e f) h = let same = three_exact a b c d e f h
    in λ i. Limit (same.0 i) (same.1 i) (same.2 i)
subject_exact (Message a) (Message b) e = ap Message (exact_bytes a b e)
subject_exact (Node a None) (Node b None) e = let both = then_both (nat_cmp a b) Equal e
    in λ i. Node (exact_unsigned a b both.0 i) None
subject_exact (Node a None) (Node b (Some n)) e = let both = then_both (nat_cmp a b) Less e in cc
subject_exact (Node a (Some m)) (Node b None) e = let both = then_both (nat_cmp a b) Greater e in cc
subject_exact (Node a (Some m)) (Node b (Some n)) e = let both = then_both (nat_cmp a b) (nat_cmp m n) e
    in λ i. Node (exact_unsigned a b both.0 i) (Some (exact_unsigned m n both.1 i))
subject_exact (Param a b c) (Param d e f) h = let same = three_exact a b c d e f h
    in λ i. Param (same.0 i) (same.1 i) (same.2 i)
subject_exact (Receive a m) (Receive b n) e = let both = then_both (slice_cmp nat_cmp a b) (nat_cmp m n) e
    in λ i. Receive (exact_bytes a b both.0 i) (exact_unsigned m n both.1 i)
subject_exact (Rpdo a m) (Rpdo b n) e = let both = then_both (nat_cmp a b) (nat_cmp m n) e
    in λ i. Rpdo (exact_unsigned a b both.0 i) (exact_unsigned m n both.1 i)
subject_exact (Tpdo a m) (Tpdo b n) e = let both = then_both (nat_cmp a b) (nat_cmp m n) e
    in λ i. Tpdo (exact_unsigned a b both.0 i) (exact_unsigned m n both.1 i)
subject_exact a b e = cc

pub diag_exact : CmpEqualImpliesEq diag_cmp
unfolding diag_cmp
diag_exact a b e =
    let both = then_both (nat_cmp (number_of a.code) (number_of b.code)) _ e in
    λ i. record {
      code = code_exact a.code b.code both.0 i;
      subject = subject_exact a.subject b.subject (subject_same a.subject b.subject ∙ both.1) i;
    }

-- ---- diagnostics that are equal by the type's test are one

tied : (o : Ordering) → is_eq o ≡ true → o ≡ Equal
tied Less e = cc
tied Equal e = refl
tied Greater e = cc

pub matches : (a b : Diag) → (diag_eq.ghosts).eq a b ≡ eq_by_cmp (diag_ord.ghosts).cmp a b
matches a b = matches_eq-law a b

pub equal_exact : (a b : Diag) → (diag_eq.ghosts).eq a b ≡ true → a ≡ b
equal_exact a b e = diag_exact a b (ap (λ (f : Diag → Diag → Ordering). f a b) (sym same_cmp)
    ∙ tied ((diag_ord.ghosts).cmp a b) (sym (matches a b) ∙ e))

-- diagnostics that are sorted, each once
pub once_in_order : (ds : List Diag) → IsSorted (diag_ord.ghosts).cmp ds
    → IsStrictlySortedBy diag_cmp (dedup (diag_eq.ghosts).eq ds)
once_in_order ds sorted =
    subst (λ (cmp : Diag → Diag → Ordering). IsStrictlySortedBy cmp (dedup (diag_eq.ghosts).eq ds)) same_cmp
    (IsStrictlySortedBy-dedup total-law matches ds sorted)
