-- What a PDO of a node has goes by the entries of the node alone.
use Rattle.std.proofs.Common.{◌≡◌, ℕ, false, Option, Some, None, option_and_then, ap, refl, sym}
use Rattle.std.specs.FinMap.{get}
use Rattle.co_dict.specs.declared.entry.Entry.{Entry}
use Rattle.co_dict.specs.Shapes.{Shaped}
use Rattle.pdo_stations.specs.Devices.{Devices, has_mapping, has_pdo, has_start, has_times}
use Rattle.pdo_stations.specs.Rooms.{device_with}
use Rattle.pdo_stations.specs.Seats.{shape_at}
use Rattle.pdo_stations.specs.Stations.{devices_in}
use Rattle.pdo_stations.specs.declared.stations.Stations.{Stations}

-- devices with these entries at every node
abbrev with_entries : (ℕ × ℕ → Option Entry) → Devices
with_entries f = record { entry = λ node. f; dummy = λ node kind. false; vendor = None; controller = None }

pub pdo_alike : (d e : Devices) (m n object count : ℕ) → d.entry m ≡ e.entry n
    → has_pdo d m object count ≡ has_pdo e n object count
unfolding has_mapping
pdo_alike d e m n object count same = ap (λ (f : ℕ × ℕ → Option Entry). has_pdo (with_entries f) 0 object count) same

pub times_alike : (d e : Devices) (m n object inhibit event : ℕ) → d.entry m ≡ e.entry n
    → has_times d m object inhibit event ≡ has_times e n object inhibit event
times_alike d e m n object inhibit event same =
    ap (λ (f : ℕ × ℕ → Option Entry). has_times (with_entries f) 0 object inhibit event) same

pub start_alike : (d e : Devices) (m n object start : ℕ) → d.entry m ≡ e.entry n
    → has_start d m object start ≡ has_start e n object start
start_alike d e m n object start same =
    ap (λ (f : ℕ × ℕ → Option Entry). has_start (with_entries f) 0 object start) same

-- the entries of a node with a station
pub entries_at : (stations : Stations) (node : ℕ) (shape : Shaped) → shape_at stations.seats node ≡ Some shape
    → (devices_in stations).entry node ≡ (device_with shape).entry 0
entries_at stations node shape at = λ i place. option_and_then (λ (s : Shaped). get s.entries place) (at i)

-- and of one without
none_at : (stations : Stations) (node : ℕ) (place : ℕ × ℕ) → shape_at stations.seats node ≡ None
    → (devices_in stations).entry node place ≡ None
none_at stations node place at = ap (option_and_then (λ (s : Shaped). get s.entries place)) at

no_pdo : (d : Devices) (n object count : ℕ) → d.entry n (object, 1) ≡ None → has_pdo d n object count ≡ false
no_pdo d n object count e = rw e refl

-- a PDO of a node with a station
pub pdo_at : (stations : Stations) (node object count : ℕ) (shape : Shaped)
    → shape_at stations.seats node ≡ Some shape
    → has_pdo (device_with shape) 0 object count ≡ has_pdo (devices_in stations) node object count
pdo_at stations node object count shape at = pdo_alike (device_with shape)
    (devices_in stations) 0 node object count (sym (entries_at stations node shape at))

pub times_at : (stations : Stations) (node object inhibit event : ℕ) (shape : Shaped)
    → shape_at stations.seats node ≡ Some shape
    → has_times (device_with shape) 0 object inhibit event ≡ has_times (devices_in stations) node object inhibit event
times_at stations node object inhibit event shape at = times_alike (device_with shape)
    (devices_in stations) 0 node object inhibit event (sym (entries_at stations node shape at))

pub start_at : (stations : Stations) (node object start : ℕ) (shape : Shaped)
    → shape_at stations.seats node ≡ Some shape
    → has_start (device_with shape) 0 object start ≡ has_start (devices_in stations) node object start
start_at stations node object start shape at = start_alike (device_with shape)
    (devices_in stations) 0 node object start (sym (entries_at stations node shape at))

-- a node without a station has none
pub no_pdo_at : (stations : Stations) (node object count : ℕ) → shape_at stations.seats node ≡ None
    → false ≡ has_pdo (devices_in stations) node object count
no_pdo_at stations node object count at =
    sym (no_pdo (devices_in stations) node object count (none_at stations node (object, 1) at))
