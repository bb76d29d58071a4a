-- What is looked up of the nodes is what their devices say.
use Rattle.std.proofs.Common.{◌≡◌, ℕ, zero, suc, ◌+◌, ◌-◌, ◌<◌, ◌≤◌, ◌==◌, ◌&&◌, nat_le, Bool, true, false, cond, List}
use Rattle.std.proofs.Common.{◌∷◌, length, drop, get_or, Option, Some, None, option_map, option_and_then, refl, sym, ap}
use Rattle.std.proofs.Common.{◌∙◌, arith}
use Rattle.std.specs.Prelude.{if◌then◌else◌}
use Rattle.std.specs.Borrow.{Bor}
use Rattle.std.specs.FinMap.{get}
use Rattle.std.specs.Map.{lookup}
use Rattle.std.specs.Option.{option_map_or}
use Rattle.std.proofs.lemmas.Bool.Decides.{nat_tests}
use Rattle.std.proofs.lemmas.List.{drop_more}
use Rattle.std.proofs.lemmas.Option.{slice_get-get_or, same_Some}
use Rattle.co_dict.specs.Shapes.{Shaped, is_dummy_allowed}
use Rattle.eds_device.specs.Entries.{entry_at, dummies_of, dummy_allowed, shape_of}
use Rattle.eds_device.proofs.LawLemmas.{shape_at as shaped_at}
use Rattle.eds_device.specs.Sheets.{Sheet}
use Rattle.pdo_stations.specs.Devices.{as_made, devices_of}
use Rattle.pdo_stations.specs.declared.as_made.AsMade.{AsMade}
use Rattle.pdo_stations.specs.declared.stations.Stations.{Stations}
use Rattle.pdo_stations.specs.Shown.{nodes_of}
use Rattle.pdo_stations.specs.Seats.{shape_at}
use Rattle.pdo_stations.specs.Stations.{devices_in}

-- ---- dummies

dummies_at : (sheet : Sheet) (kind : ℕ) → 1 ≤ kind → kind ≤ 7
    → get_or (dummies_of sheet.sections) (kind - 1) false ≡ dummy_allowed sheet.sections kind
dummies_at sheet zero low high = absurd (omega arith)
dummies_at sheet (suc zero) low high = refl
dummies_at sheet (suc (suc zero)) low high = refl
dummies_at sheet (suc (suc (suc zero))) low high = refl
dummies_at sheet (suc (suc (suc (suc zero)))) low high = refl
dummies_at sheet (suc (suc (suc (suc (suc zero))))) low high = refl
dummies_at sheet (suc (suc (suc (suc (suc (suc zero)))))) low high = refl
dummies_at sheet (suc (suc (suc (suc (suc (suc (suc zero))))))) low high = refl
dummies_at sheet (suc (suc (suc (suc (suc (suc (suc (suc n)))))))) low high = absurd (omega arith)

low_kind : (sheet : Sheet) (kind : ℕ) → nat_le 1 kind ≡ false → false ≡ dummy_allowed sheet.sections kind
unfolding dummy_allowed
low_kind sheet kind e = rw e refl

high_kind : (sheet : Sheet) (kind : ℕ) → nat_le 1 kind ≡ true → nat_le kind 7 ≡ false
    → false ≡ dummy_allowed sheet.sections kind
unfolding dummy_allowed
high_kind sheet kind d e = rw (d, e) refl

dummy_shaped : (sheet : Sheet) (node kind : ℕ) → is_dummy_allowed (shape_of sheet node) kind ≡ dummy_allowed sheet.sections kind
unfolding shape_of
dummy_shaped sheet node kind = by (nat_le 1 kind) (nat_le kind 7) refl refl
  where
    up : (m n : ℕ) → nat_le m n ≡ true → m ≤ n
    up m n t = grind (arith, nat_tests)

    by : (a b : Bool) → nat_le 1 kind ≡ a → nat_le kind 7 ≡ b
        → (a && b && get_or (dummies_of sheet.sections) (kind - 1) false) ≡ dummy_allowed sheet.sections kind
    by true true low high = dummies_at sheet kind (up 1 kind low) (up kind 7 high)
    by true false low high = high_kind sheet kind low high
    by false b low high = low_kind sheet kind low

-- ---- devices

abbrev pub shaped : ℕ → List (ℕ × Sheet) → Option Shaped
shaped node nodes = option_map (λ sheet. shape_of sheet node) (lookup (λ n. n == node) nodes)

entry_shaped : (node : ℕ) (place : ℕ × ℕ) (o : Option Sheet)
    → option_and_then (λ (s : Shaped). get s.entries place) (option_map (λ sheet. shape_of sheet node) o)
    ≡ option_and_then (λ sheet. entry_at sheet node place.0 place.1) o
entry_shaped node place None = refl
entry_shaped node place (Some sheet) = shaped_at sheet node place.0 place.1

allowed_shaped : (node kind : ℕ) (o : Option Sheet)
    → option_map_or (λ (s : Shaped). is_dummy_allowed s kind) (option_map (λ sheet. shape_of sheet node) o) false
    ≡ option_map_or (λ sheet. dummy_allowed sheet.sections kind) o false
allowed_shaped node kind None = refl
allowed_shaped node kind (Some sheet) = dummy_shaped sheet node kind

pub devices_alike : (stations : Stations) (is_three : Bool) (nodes : List (ℕ × Sheet))
    → ((node : ℕ) → shape_at stations.seats node ≡ shaped node nodes)
    → (devices_in stations).vendor ≡ (devices_of is_three None nodes).vendor
    → devices_in stations ≡ devices_of is_three stations.controller nodes
devices_alike stations is_three nodes same vendors =
    let entries : (node : ℕ) (place : ℕ × ℕ)
    → (devices_in stations).entry node place ≡ (devices_of is_three None nodes).entry node place =
    λ node place. ap (option_and_then (λ (s : Shaped). get s.entries place)) (same node)
    ∙ entry_shaped node place (lookup (λ n. n == node) nodes) in
    let dummies : (node kind : ℕ)
    → (devices_in stations).dummy node kind ≡ (devices_of is_three None nodes).dummy node kind =
    λ node kind. ap (λ o. option_map_or (λ (s : Shaped). is_dummy_allowed s kind) o false) (same node)
    ∙ allowed_shaped node kind (lookup (λ n. n == node) nodes) in
    λ i. record {
      entry = λ node place. entries node place i;
      dummy = λ node kind. dummies node kind i;
      vendor = vendors i;
      controller = stations.controller;
    }

-- ---- devices as they were made

abbrev pub made : ℕ → List (ℕ × Sheet) → Option AsMade
made node nodes = option_map (λ sheet. as_made sheet node) (lookup (λ n. n == node) nodes)

pub made_more : (before after : List (Option AsMade)) (number : ℕ) (sheet : Sheet) (nodes : List (ℕ × Sheet))
    → ((node : ℕ) → get_or after node None ≡ (if number == node then Some (as_made sheet number) else get_or before node None))
    → ((node : ℕ) → get_or before node None ≡ made node nodes)
    → (node : ℕ) → get_or after node None ≡ made node ((number, sheet) ∷ nodes)
made_more before after number sheet nodes put so_far node = put node ∙ by (number == node) refl
  where
    same_number : (a b : ℕ) → (a == b) ≡ true → a ≡ b
    same_number a b e = grind (arith, nat_tests)

    by : (b : Bool) → (number == node) ≡ b → (if b then Some (as_made sheet number) else get_or before node None)
        ≡ option_map (λ sheet. as_made sheet node) (cond b (Some sheet) (lookup (λ n. n == node) nodes))
    by true e = ap (λ n. Some (as_made sheet n)) (same_number number node e)
    by false e = so_far node

-- ---- one more node

same_number : (a b : ℕ) → (a == b) ≡ true → a ≡ b
same_number a b e = grind (arith, nat_tests)

pub stations_more : (before after : List (ℕ × Shaped)) (number : ℕ) (sheet : Sheet)
    (nodes : List (ℕ × Sheet))
    → ((node : ℕ) → shape_at after node ≡ (if number == node then Some (shape_of sheet number) else shape_at before node))
    → ((node : ℕ) → shape_at before node ≡ shaped node nodes)
    → (node : ℕ) → shape_at after node ≡ shaped node ((number, sheet) ∷ nodes)
stations_more before after number sheet nodes put so_far node = put node ∙ by (number == node) refl
  where
    by : (b : Bool) → (number == node) ≡ b → (if b then Some (shape_of sheet number) else shape_at before node)
        ≡ option_map (λ sheet. shape_of sheet node) (cond b (Some sheet) (lookup (λ n. n == node) nodes))
    by true e = ap (λ n. Some (shape_of sheet n)) (same_number number node e)
    by false e = so_far node

-- the node before the last ones
pub node_before : (nodes : List (ℕ × Bor Sheet)) (i : ℕ) (a b : ℕ × Bor Sheet) → i < length nodes
    → nodes_of (drop i nodes) ≡ ((get_or nodes i a).0, (get_or nodes i b).1.now)
    ∷ nodes_of (drop (i + 1) nodes)
node_before nodes i a b below =
    let same : get_or nodes i a ≡ get_or nodes i b = same_Some (get_or nodes i a) (get_or nodes i b)
    (sym (slice_get-get_or nodes i a below) ∙ slice_get-get_or nodes i b below) in
    ap nodes_of (drop_more nodes i a below) ∙ ap (λ (n : ℕ × Bor Sheet). ((get_or nodes i a).0, n.1.now)
    ∷ nodes_of (drop (i + 1) nodes)) same
