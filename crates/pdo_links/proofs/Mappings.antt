-- Mappings and their writes.
use Rattle.std.proofs.Common.{◌≡◌, ℕ, suc, ◌+◌, ◌<◌, List, [], ◌∷◌, ◌++◌, length, take, get_or, All, length-take}
use Rattle.std.proofs.Common.{append_assoc, subst, sym, ap, ◌∙◌, arith}
use Rattle.std.proofs.lemmas.List.{take_more}
use Rattle.std.proofs.lemmas.List.Elements.{All-nil, All-push}
use Rattle.base.specs.Bytes.{AreBytes}
use Rattle.concise_dcf.specs.declared.write.Write.{Write}
use Rattle.pdo_stations.specs.declared.mapped.Mapped.{Mapped}
use Rattle.pdo_plan.specs.Mapping.{mapped_bytes}
use Rattle.pdo_links.specs.Tables.{AreMapped}
use Rattle.pdo_links.specs.PdoWrites.{mapped_writes, write_at}

pub none_mapped : AreMapped []
unfolding AreMapped
none_mapped = All-nil (λ (m : Mapped). AreBytes (mapped_bytes m))

pub one_more : (mapping : List Mapped) (i : ℕ) (d m : Mapped) → i < length mapping → m ≡ get_or mapping i d
    → AreBytes (mapped_bytes m) → AreMapped (take i mapping) → AreMapped (take (i + 1) mapping)
unfolding AreMapped
one_more mapping i d m lt is here so_far =
    let more : take (i + 1) mapping ≡ take i mapping ++ m ∷ [] = take_more mapping i d lt
    ∙ ap (λ x. take i mapping ++ x ∷ []) (sym is) in
    subst (λ (ms : List Mapped). All (λ (m : Mapped). AreBytes (mapped_bytes m)) ms) (sym more)
    (All-push (λ (m : Mapped). AreBytes (mapped_bytes m)) (take i mapping) m so_far here)

-- one more entry is written at the next sub
pushed : (object first : ℕ) (ms : List Mapped) (m : Mapped)
    → mapped_writes object first (ms ++ m ∷ []) ≡ mapped_writes object first ms ++ write_at object (first + length ms)
    (mapped_bytes m) ∷ []
pushed object first [] m = let e : first ≡ first + 0 = omega arith
    in ap (λ (n : ℕ). write_at object n (mapped_bytes m) ∷ []) e
pushed object first (x ∷ ms) m =
    let e : first + 1 + length ms ≡ first + suc (length ms) = omega arith in
    ap (λ (ws : List Write). write_at object first (mapped_bytes x) ∷ ws)
    (pushed object (first + 1) ms m
    ∙ ap (λ (n : ℕ). mapped_writes object (first + 1) ms ++ write_at object n (mapped_bytes m) ∷ []) e)

pub written_more : (object : ℕ) (mapping : List Mapped) (i : ℕ) (d m : Mapped) (old ws new : List Write)
    → i < length mapping → m ≡ get_or mapping i d
    → new ≡ ws ++ write_at object (i + 1) (mapped_bytes m) ∷ [] → ws ≡ old ++ mapped_writes object 1 (take i mapping)
    → new ≡ old ++ mapped_writes object 1 (take (i + 1) mapping)
written_more object mapping i d m old ws new lt is added so_far =
    let n : 1 + length (take i mapping) ≡ i + 1 = omega (arith, length-take i mapping) in
    let more : take (i + 1) mapping ≡ take i mapping ++ m ∷ [] = take_more mapping i d lt
    ∙ ap (λ x. take i mapping ++ x ∷ []) (sym is) in
    let step : mapped_writes object 1 (take (i + 1) mapping)
    ≡ mapped_writes object 1 (take i mapping) ++ write_at object (i + 1) (mapped_bytes m) ∷ [] =
    ap (mapped_writes object 1) more ∙ pushed object 1 (take i mapping) m
    ∙ ap (λ (k : ℕ). mapped_writes object 1 (take i mapping) ++ write_at object k (mapped_bytes m) ∷ []) n in
    added ∙ ap (λ (xs : List Write). xs ++ write_at object (i + 1) (mapped_bytes m) ∷ []) so_far ∙ append_assoc old _ _
    ∙ ap (λ (xs : List Write). old ++ xs) (sym step)
