-- What edits leave alone.
use Rattle.std.proofs.Common.{◌≡◌, ◌∙◌, ℕ, Bool, true, false, not, cond, ◌==◌, ◌&&◌, ◌||◌, List, [], ◌∷◌, map, Option}
use Rattle.std.proofs.Common.{Ok, Some}
use Rattle.std.proofs.Common.{None, filter, option_map, option_and_then, refl, sym, ap}
use Rattle.std.specs.Cmp.{tied_itself}
use Rattle.std.specs.Prelude.{if◌then◌else◌}
use Rattle.std.specs.FinMap.{contains_key, entries, get, get-insert, get-remove, insert, keys, remove}
use Rattle.std.specs.Map.{keys_of}
use Rattle.std.specs.Option.{option_map_or}
use Rattle.std.specs.Ordering.{eq_by_cmp, is_eq, nat_cmp}
use Rattle.std.proofs.lemmas.Bool.{eq-eqb, eqb-true, false≢true, or_parts}
use Rattle.std.proofs.lemmas.Cmp.{nat_cmp_total}
use Rattle.std.proofs.lemmas.Map.Lookups.{exact_unsigned}
use Rattle.base.proofs.TableLemmas.{alike, apart, put_there}
use Rattle.project_edits.specs.Stamps.{first_day_of, period_of}
use Rattle.project_edits.specs.declared.edit.Edit.{Edit}
use Rattle.project_edits.specs.declared.edit.Edit.TheVariants as edit
use Rattle.project_edits.specs.declared.manager_settings.ManagerSettings.{ManagerSettings}
use Rattle.concise_dcf.specs.declared.write.Write.{Write}
use Rattle.co_dict.specs.Shapes.{Shaped}
use Rattle.eds_device.specs.Entries.{shape_of}
use Rattle.eds_device.specs.Sheets.{Sheet}
use Rattle.kept_values.proofs.Brought.{option_map_back}
use Rattle.node_parameters.specs.Params.{Texts as Params}
use Rattle.co_project.specs.declared.node.Node.{Node}
use Rattle.co_project.specs.Project.{accept, has_controller, is_controller, Content as Project}
use Rattle.co_project.specs.Tables.{node_after_put, put_need, put_node, with_need, Nodes}
use Rattle.co_scenario.specs.declared.timed_event.TimedEvent.{TimedEvent}
use Rattle.co_scenario.specs.declared.timed_step.TimedStep.{TimedStep}
use Rattle.project_parts.proofs.EntriesAlike.{entries_alike, shown}
use Rattle.network_image.specs.Image.{mandatory_of, roster_of_project, slot_rule, start_mode_of, window_steps}
use Rattle.network_image.specs.Steps.{steps_in}
use Rattle.project_plan.specs.Controller.{shape_held}
use Rattle.project_plan.specs.Events.{shape_of_node, Shapes}
use Rattle.project_parts.specs.Given.{device_from, inputs_of, own_given, roster_from, writes_from}
use Rattle.project_plan.specs.Network.{device_at, member_at, with_sheet, Member}
use Rattle.project_parts.specs.Given.{OfNode, OfRoster, OfWindow, OfWrites}
use Rattle.project_parts.specs.Made.{writes_made}
use Rattle.project_parts.specs.Touch.{touch_of}
use Rattle.project_parts.specs.Touched.{goes_into, is_window_at, is_window_of, is_touched, moves_controller}
use Rattle.project_parts.specs.declared.device_at.DeviceAt.{DeviceAt}
use Rattle.project_parts.specs.declared.roster_from.RosterFrom.{RosterFrom}
use Rattle.project_parts.specs.declared.part.Part.{Part}
use Rattle.project_parts.specs.declared.part.Part.TheVariants as part
use Rattle.project_parts.proofs.ControllerLemmas.{no_test, node_there, put_beside, removed_beside, same_test, with_others}
use Rattle.project_parts.proofs.EditLemmas.{changed_params, made, other_params, taken_as, with_node, with_params}
use Rattle.project_parts.proofs.EventLemmas.{steps_left}
use Rattle.project_parts.proofs.FileLemmas.{file_left, moves_none}

tied_apart : (n id : ℕ) → (n == id) ≡ false → eq_by_cmp nat_cmp n id ≡ false
tied_apart n id h = apart nat_cmp_total exact_unsigned n id (λ one. false≢true (sym h ∙ eq-eqb n id one))

-- what is so can't be otherwise
contrary : {X : Type 0} (t : Bool) → t ≡ false → t ≡ true → X
contrary t off on = absurd (false≢true (sym off ∙ on))

tied_alike : (n : ℕ) → eq_by_cmp nat_cmp n n ≡ true
tied_alike n = ap is_eq (tied_itself nat_cmp_total n)

neither : (s t : Bool) → (s || t) ≡ false → (s ≡ false) × (t ≡ false)
neither true t h = cc
neither false t h = (refl, h)

-- ---- the numbers of the nodes, and of those that are mandatory

numbers_shown : {X Y : Type 0} (s : X → Y) (es : List (ℕ × X)) → keys_of (map (shown s) es) ≡ keys_of es
numbers_shown s [] = refl
numbers_shown s (e ∷ es) = ap (λ ks. e.0 ∷ ks) (numbers_shown s es)

abbrev need : Node → Bool
need node = node.mandatory

-- those that are mandatory, but for the one that a test finds
module _ (own : ℕ → Bool) where
  abbrev mandatory_but : Nodes → List ℕ
  mandatory_but nodes = keys_of (filter (λ (e : ℕ × Node). e.1.mandatory && not (own e.0)) (entries nodes))

  abbrev needed_keys : List (ℕ × Bool) → List ℕ
  needed_keys es = keys_of (filter (λ (e : ℕ × Bool). e.1 && not (own e.0)) es)

  mandatory_shown : (es : List (ℕ × Node))
      → keys_of (filter (λ (e : ℕ × Node). e.1.mandatory && not (own e.0)) es) ≡ needed_keys (map (shown need) es)
  mandatory_shown [] = refl
  mandatory_shown (e ∷ es) = by (e.1.mandatory && not (own e.0)) (mandatory_shown es)
    where
      left : List (ℕ × Node)
      left = filter (λ (d : ℕ × Node). d.1.mandatory && not (own d.0)) es

      right : List (ℕ × Bool)
      right = filter (λ (d : ℕ × Bool). d.1 && not (own d.0)) (map (shown need) es)

      by : (t : Bool) → keys_of left ≡ keys_of right
          → keys_of (cond t (e ∷ left) left) ≡ keys_of (cond t (shown need e ∷ right) right)
      by true rest = ap (λ ks. e.0 ∷ ks) rest
      by false rest = rest

module _ (nodes : Nodes) (id : ℕ) (change : Params → Params) where
  same_numbers : (o : Option Node) → get nodes id ≡ o → keys (with_params nodes id change o) ≡ keys nodes
  same_numbers None none = refl
  same_numbers (Some node) there =
      let new : Node = record node { params = change node.params } in
      sym (numbers_shown (λ (n : Node). n.eds) (entries (insert nodes id new)))
      ∙ ap keys_of (entries_alike (λ (n : Node). n.eds) nat_cmp_total exact_unsigned nodes id node new there refl)
      ∙ numbers_shown (λ (n : Node). n.eds) (entries nodes)

  same_mandatory : (own : ℕ → Bool) (o : Option Node) → get nodes id ≡ o
      → mandatory_but own (with_params nodes id change o) ≡ mandatory_but own nodes
  same_mandatory own None none = refl
  same_mandatory own (Some node) there =
      let new : Node = record node { params = change node.params } in
      mandatory_shown own (entries (insert nodes id new))
      ∙ ap (needed_keys own) (entries_alike need nat_cmp_total exact_unsigned nodes id node new there refl)
      ∙ sym (mandatory_shown own (entries nodes))

module _ (p : Project) where
  abbrev roster_with : List ℕ → List ℕ → RosterFrom
  roster_with mandatory numbers = record {
    roster = record {
      bit_rate = p.bitrate;
      slots = slot_rule p.version;
      manager = p.manager.id;
      sync_us = p.manager.sync_us;
      sync_counter = p.sync_counter;
      time_us = period_of p.time_stamps;
      first_day = first_day_of p.time_stamps;
      heartbeat_ms = p.manager.heartbeat_ms;
      timeout_ms = p.manager.timeout_ms;
      start_mode = start_mode_of p.version;
      mandatory = mandatory;
      nodes = numbers;
    };
  }

  -- the node that the manager runs in, where it is there
  abbrev own_node : Bool → ℕ → Bool
  own_node there n = there && (n == p.manager.id)

  params_listed : (id : ℕ) (change : Params → Params) → roster_from (changed_params p id change) ≡ roster_from p
  unfolding roster_of_project
  params_listed id change =
      let nodes : Nodes = with_params p.nodes id change (get p.nodes id) in
      ap (λ (t : Bool). roster_with (mandatory_but (own_node t) nodes) (keys nodes))
      (node_there p.nodes id (other_params change) (get p.nodes id) refl p.manager.id)
      ∙ ap (λ ns. roster_with ns (keys nodes)) (same_mandatory p.nodes id change (own_node (has_controller p)) (get p.nodes id) refl)
      ∙ ap (roster_with (mandatory_of p)) (same_numbers p.nodes id change (get p.nodes id) refl)

  pub roster_left : (e : Edit) → is_touched p e part.Roster ≡ false → roster_from (made p e) ≡ roster_from p
  unfolding roster_of_project
  roster_left (edit.Version version) h = cc
  roster_left (edit.Bitrate rate) h = cc
  roster_left (edit.Horizon time) h = refl
  roster_left (edit.Manager m) h = cc
  roster_left (edit.TimeStamps stamps) h = cc
  roster_left (edit.SyncCounter n) h = cc
  roster_left (edit.Eds name text) h = refl
  roster_left (edit.DropEds name) h = refl
  roster_left (edit.Node id name eds) h = cc
  roster_left (edit.Need id mandatory) h = cc
  roster_left (edit.DropNode id) h = cc
  roster_left (edit.Param id index sub text) h = params_listed id (λ ps. insert ps (index, sub) text)
  roster_left (edit.Unparam id index sub) h = params_listed id (λ ps. remove ps (index, sub))
  roster_left (edit.Message name m) h = refl
  roster_left (edit.Start name n) h = refl
  roster_left (edit.DropMessage name) h = refl
  roster_left (edit.Source name position index sub) h = refl
  roster_left (edit.Unsource name position) h = refl
  roster_left (edit.Sink name position node index sub) h = refl
  roster_left (edit.Unsink name position node) h = refl
  roster_left (edit.Receive name node rpdo event) h = refl
  roster_left (edit.Unreceive name node) h = refl
  roster_left (edit.Event number e) h = refl
  roster_left (edit.DropEvent number) h = refl

  -- ---- the devices of the nodes

  -- where the node of a number is another one of which the same is made
  node_left : {X : Type 0} (make : Node → Option X) (id : ℕ) (change : Node → Node)
      → ((node : Node) → make (change node) ≡ make node) → (n : ℕ) (o : Option Node) → get p.nodes id ≡ o
      → option_and_then make (get (with_node p.nodes id change o) n) ≡ option_and_then make (get p.nodes n)
  node_left make id change same n None none = refl
  node_left make id change same n (Some node) there =
      ap (option_and_then make) (get-insert nat_cmp_total p.nodes id (change node) n) ∙ by (eq_by_cmp nat_cmp n id) refl
    where
      by : (t : Bool) → eq_by_cmp nat_cmp n id ≡ t
          → option_and_then make (cond t (Some (change node)) (get p.nodes n)) ≡ option_and_then make (get p.nodes n)
      by true one =
          same node
          ∙ sym (ap (option_and_then make) (ap (get p.nodes) (alike nat_cmp_total exact_unsigned n id one) ∙ there))
      by false other = refl

  -- ---- the writes that a node holds by itself

  writes_left : (e : Edit) (n : ℕ) → goes_into p (touch_of e) (part.Writes n) ≡ false
      → writes_from (made p e) n ≡ writes_from p n
  writes_left e n h =
      option_map_back OfWrites (λ x y e. cc) (writes_from (made p e) n) (writes_from p n)
      (file_left p (part.Writes n) refl e h)

  same_own : (new : Project) (n : ℕ) → is_controller new n ≡ is_controller p n
      → (is_controller p n ≡ true → writes_from new n ≡ writes_from p n) → own_given new n ≡ own_given p n
  same_own new n same writes =
      ap (λ t. let none : Option (List Write) = None in if t then option_map writes_made (writes_from new n) else none) same
      ∙ by (is_controller p n) refl
    where
      by : (t : Bool) → is_controller p n ≡ t
          → (let none : Option (List Write) = None in
          (if t then option_map writes_made (writes_from new n) else none)
          ≡ (if t then option_map writes_made (writes_from p n) else none))
      by true own = ap (option_map writes_made) (writes own)
      by false other = refl

  -- the manager gets another number
  manager_test : (m : ManagerSettings) (n : ℕ) → is_touched p (edit.Manager m) (part.Node n) ≡ false
      → is_controller (record p { manager = m }) n ≡ is_controller p n
  manager_test m n h = by (moves_controller p m.id) refl h
    where
      by : (t : Bool) → moves_controller p m.id ≡ t → t && ((n == m.id) || (n == p.manager.id)) ≡ false
          → is_controller (record p { manager = m }) n ≡ is_controller p n
      by true moved h =
          let parts = or_parts (n == m.id) (n == p.manager.id) h in
          ap (λ t. contains_key p.nodes m.id && t) parts.0 ∙ no_test (contains_key p.nodes m.id)
          ∙ sym (ap (λ t. has_controller p && t) parts.1 ∙ no_test (has_controller p))
      by false unmoved h = same_test p m unmoved n

  manager_unmoved : (m : ManagerSettings) (n : ℕ) → is_touched p (edit.Manager m) (part.Node n) ≡ false
      → is_controller p n ≡ true → goes_into p (touch_of (edit.Manager m)) (part.Writes n) ≡ false
  manager_unmoved m n h own = by (moves_controller p m.id) h
    where
      by : (t : Bool) → t && ((n == m.id) || (n == p.manager.id)) ≡ false → t && true ≡ false
      by true h =
          contrary (is_controller p n)
          (ap (λ t. has_controller p && t) (or_parts (n == m.id) (n == p.manager.id) h).1 ∙ no_test (has_controller p)) own
      by false h = refl

  -- a parameter comes or goes
  params_apart : (id n : ℕ) → is_controller p id && (n == id) ≡ false → is_controller p n ≡ true
      → (n == id) || is_controller p id && false ≡ false
  params_apart id n h own = by (n == id) refl h
    where
      by : (t : Bool) → (n == id) ≡ t → is_controller p id && t ≡ false → t || is_controller p id && false ≡ false
      by true same h =
          contrary (is_controller p id) (moves_none (is_controller p id) h)
          (ap (is_controller p) (sym (eqb-true n id same)) ∙ own)
      by false other h = no_test (is_controller p id)

  changed_test : (id : ℕ) (change : Node → Node) (n : ℕ)
      → is_controller (record p { nodes = with_node p.nodes id change (get p.nodes id) }) n ≡ is_controller p n
  changed_test id change n =
      ap (λ t. t && (n == p.manager.id)) (node_there p.nodes id change (get p.nodes id) refl p.manager.id)

  -- where messages change it isn't the node that the manager runs in
  messages_own : (new : Project) (n : ℕ) → is_controller new n ≡ is_controller p n → is_controller p n ≡ false
      → own_given new n ≡ own_given p n
  messages_own new n same other = same_own new n same (λ own. contrary (is_controller p n) other own)

  -- a node comes or goes
  other_own : (id : ℕ) (nodes : Nodes) (n : ℕ) → ((k : ℕ) → (k == id) ≡ false → contains_key nodes k ≡ contains_key p.nodes k)
      → (n == id) ≡ false → is_controller p n ≡ false
      → own_given (record p { nodes = nodes }) n ≡ own_given p n
  other_own id nodes n same apart other =
      messages_own (record p { nodes = nodes }) n
      (with_others p nodes n (λ k one. same k (ap (λ (x : ℕ). x == id) one ∙ apart))) other

  own_left : (e : Edit) (n : ℕ) → is_touched p e (part.Node n) ≡ false → own_given (made p e) n ≡ own_given p n
  own_left (edit.Version version) n h = cc
  own_left (edit.Bitrate rate) n h = refl
  own_left (edit.Horizon time) n h = refl
  own_left (edit.Manager m) n h =
      same_own (made p (edit.Manager m)) n (manager_test m n h)
      (λ own. writes_left (edit.Manager m) n (manager_unmoved m n h own))
  own_left (edit.TimeStamps stamps) n h = refl
  own_left (edit.SyncCounter last) n h = refl
  own_left (edit.Eds name text) n h = cc
  own_left (edit.DropEds name) n h = cc
  own_left (edit.Node id name eds) n h =
      let parts = or_parts (n == id) (is_controller p n) h in
      other_own id (put_node p.nodes id name eds) n
      (put_beside p.nodes id (node_after_put name eds (get p.nodes id))) parts.0 parts.1
  own_left (edit.Need id mandatory) n h =
      same_own (made p (edit.Need id mandatory)) n (changed_test id (with_need mandatory) n)
      (λ own. writes_left (edit.Need id mandatory) n refl)
  own_left (edit.DropNode id) n h =
      let parts = or_parts (n == id) (is_controller p n) h in
      other_own id (remove p.nodes id) n (removed_beside p.nodes id) parts.0 parts.1
  own_left (edit.Param id index sub text) n h =
      same_own (made p (edit.Param id index sub text)) n (changed_test id (other_params (λ ps. insert ps (index, sub) text)) n)
      (λ own. writes_left (edit.Param id index sub text) n (params_apart id n h own))
  own_left (edit.Unparam id index sub) n h =
      same_own (made p (edit.Unparam id index sub)) n (changed_test id (other_params (λ ps. remove ps (index, sub))) n)
      (λ own. writes_left (edit.Unparam id index sub) n (params_apart id n h own))
  own_left (edit.Message name m) n h = messages_own (made p (edit.Message name m)) n refl h
  own_left (edit.Start name start) n h = messages_own (made p (edit.Start name start)) n refl h
  own_left (edit.DropMessage name) n h = messages_own (made p (edit.DropMessage name)) n refl h
  own_left (edit.Source name position index sub) n h =
      messages_own (made p (edit.Source name position index sub)) n refl h
  own_left (edit.Unsource name position) n h = messages_own (made p (edit.Unsource name position)) n refl h
  own_left (edit.Sink name position node index sub) n h =
      messages_own (made p (edit.Sink name position node index sub)) n refl h
  own_left (edit.Unsink name position node) n h = messages_own (made p (edit.Unsink name position node)) n refl h
  own_left (edit.Receive name node rpdo event) n h =
      messages_own (made p (edit.Receive name node rpdo event)) n refl h
  own_left (edit.Unreceive name node) n h = messages_own (made p (edit.Unreceive name node)) n refl h
  own_left (edit.Event number e) n h = refl
  own_left (edit.DropEvent number) n h = refl

  -- ---- what a node has by its device

  abbrev device_with : Option (List Write) → ℕ → Node → Option DeviceAt
  device_with own n node = option_map (λ d. record { device = d; node = n; own = own }) (device_at p node.eds)

  abbrev device_by : Option (List Write) → ℕ → Option Node → Option DeviceAt
  device_by own n o = option_and_then (device_with own n) o

  -- with other writes, and another node
  by_both : (e : Edit) (n : ℕ) (nodes : Nodes) → is_touched p e (part.Node n) ≡ false
      → device_by (own_given p n) n (get nodes n) ≡ device_from p n
      → device_by (own_given (made p e) n) n (get nodes n) ≡ device_from p n
  by_both e n nodes h same = ap (λ own. device_by own n (get nodes n)) (own_left e n h) ∙ same

  params_left : (id : ℕ) (change : Params → Params) (n : ℕ)
      → device_by (own_given p n) n (get (with_params p.nodes id change (get p.nodes id)) n) ≡ device_from p n
  params_left id change n =
      node_left (device_with (own_given p n) n) id (other_params change) (λ node. refl) n (get p.nodes id) refl

  pub device_left : (e : Edit) (n : ℕ) → is_touched p e (part.Node n) ≡ false → device_from (made p e) n ≡ device_from p n
  device_left (edit.Version version) n h = cc
  device_left (edit.Bitrate rate) n h = refl
  device_left (edit.Horizon time) n h = refl
  device_left (edit.Manager m) n h = by_both (edit.Manager m) n p.nodes h refl
  device_left (edit.TimeStamps stamps) n h = refl
  device_left (edit.SyncCounter last) n h = refl
  device_left (edit.Eds name text) n h = cc
  device_left (edit.DropEds name) n h = cc
  device_left (edit.Node id name eds) n h =
      by_both (edit.Node id name eds) n (put_node p.nodes id name eds) h
      (ap (device_by (own_given p n) n) (get-insert nat_cmp_total p.nodes id (node_after_put name eds (get p.nodes id)) n
      ∙ ap (λ t. cond t (Some (node_after_put name eds (get p.nodes id))) (get p.nodes n))
      (tied_apart n id (or_parts (n == id) (is_controller p n) h).0)))
  device_left (edit.Need id mandatory) n h =
      by_both (edit.Need id mandatory) n (put_need p.nodes id mandatory) h
      (node_left (device_with (own_given p n) n) id (with_need mandatory) (λ node. refl) n (get p.nodes id) refl)
  device_left (edit.DropNode id) n h =
      by_both (edit.DropNode id) n (remove p.nodes id) h
      (ap (device_by (own_given p n) n) (get-remove nat_cmp_total p.nodes id n
      ∙ ap (λ t. cond t None (get p.nodes n)) (tied_apart n id (or_parts (n == id) (is_controller p n) h).0)))
  device_left (edit.Param id index sub text) n h =
      by_both (edit.Param id index sub text) n (made p (edit.Param id index sub text)).nodes h (params_left id _ n)
  device_left (edit.Unparam id index sub) n h =
      by_both (edit.Unparam id index sub) n (made p (edit.Unparam id index sub)).nodes h (params_left id _ n)
  device_left (edit.Message name m) n h = by_both (edit.Message name m) n p.nodes h refl
  device_left (edit.Start name start) n h = by_both (edit.Start name start) n p.nodes h refl
  device_left (edit.DropMessage name) n h = by_both (edit.DropMessage name) n p.nodes h refl
  device_left (edit.Source name position index sub) n h =
      by_both (edit.Source name position index sub) n p.nodes h refl
  device_left (edit.Unsource name position) n h = by_both (edit.Unsource name position) n p.nodes h refl
  device_left (edit.Sink name position node index sub) n h =
      by_both (edit.Sink name position node index sub) n p.nodes h refl
  device_left (edit.Unsink name position node) n h = by_both (edit.Unsink name position node) n p.nodes h refl
  device_left (edit.Receive name node rpdo event) n h =
      by_both (edit.Receive name node rpdo event) n p.nodes h refl
  device_left (edit.Unreceive name node) n h = by_both (edit.Unreceive name node) n p.nodes h refl
  device_left (edit.Event number e) n h = refl
  device_left (edit.DropEvent number) n h = refl

  -- ---- the windows

  -- the entries of a node's device
  abbrev shape_with : Bool → ℕ → Node → Option Shaped
  shape_with own n node = option_map (λ (d : Sheet). shape_held own (shape_of d n)) (device_at p node.eds)

  shape_is : (n : ℕ) → shape_of_node p n ≡ option_and_then (shape_with (is_controller p n) n) (get p.nodes n)
  unfolding shape_of_node member_at
  shape_is n = by (get p.nodes n)
    where
      one : (node : Node) (o : Option Sheet)
          → option_map (λ (m : Member). shape_held (is_controller p n) (shape_of m.sheet n))
          (option_map (λ sheet. record { node = node; sheet = sheet }) o)
          ≡ option_map (λ (d : Sheet). shape_held (is_controller p n) (shape_of d n)) o
      one node None = refl
      one node (Some sheet) = refl

      by : (o : Option Node)
          → option_map (λ (m : Member). shape_held (is_controller p n) (shape_of m.sheet n)) (option_and_then (with_sheet p) o)
          ≡ option_and_then (shape_with (is_controller p n) n) o
      by None = refl
      by (Some node) = one node (device_at p node.eds)

module _ (p : Project) where
  -- a node of the same EDS in the place of one
  changed_shape : (id : ℕ) (change : Node → Node) → ((node : Node) → (change node).eds ≡ node.eds) → (n : ℕ)
      → shape_of_node (record p { nodes = with_node p.nodes id change (get p.nodes id) }) n ≡ shape_of_node p n
  changed_shape id change same n =
      let new : Project = record p { nodes = with_node p.nodes id change (get p.nodes id) } in
      shape_is new n
      ∙ ap (λ t. option_and_then (shape_with p t n) (get new.nodes n)) (changed_test p id change n)
      ∙ node_left p (shape_with p (is_controller p n) n) id change
      (λ node. ap (λ (eds : List ℕ). option_map (λ (d : Sheet). shape_held (is_controller p n) (shape_of d n)) (device_at p eds))
      (same node)) n (get p.nodes id) refl
      ∙ sym (shape_is p n)

  managed_shape : (m : ManagerSettings) → moves_controller p m.id ≡ false → (n : ℕ)
      → shape_of_node (record p { manager = m }) n ≡ shape_of_node p n
  managed_shape m unmoved n =
      shape_is (record p { manager = m }) n
      ∙ ap (λ t. option_and_then (shape_with p t n) (get p.nodes n)) (same_test p m unmoved n) ∙ sym (shape_is p n)

  module _ (i : ℕ) where
    shapes_left : (e : Edit) → is_touched p e (part.Window i) ≡ false → shape_of_node (made p e) ≡ shape_of_node p
    unfolding shape_of_node member_at
    shapes_left (edit.Version version) h = cc
    shapes_left (edit.Bitrate rate) h = refl
    shapes_left (edit.Horizon time) h = refl
    shapes_left (edit.Manager m) h = λ j n. managed_shape m (moves_none (moves_controller p m.id) h) n j
    shapes_left (edit.TimeStamps stamps) h = refl
    shapes_left (edit.SyncCounter last) h = refl
    shapes_left (edit.Eds name text) h = cc
    shapes_left (edit.DropEds name) h = cc
    shapes_left (edit.Node id name eds) h = cc
    shapes_left (edit.Need id mandatory) h = λ j n. changed_shape id (with_need mandatory) (λ node. refl) n j
    shapes_left (edit.DropNode id) h = cc
    shapes_left (edit.Param id index sub text) h =
        λ j n. changed_shape id (other_params (λ ps. insert ps (index, sub) text)) (λ node. refl) n j
    shapes_left (edit.Unparam id index sub) h =
        λ j n. changed_shape id (other_params (λ ps. remove ps (index, sub))) (λ node. refl) n j
    shapes_left (edit.Message name m) h = refl
    shapes_left (edit.Start name start) h = refl
    shapes_left (edit.DropMessage name) h = refl
    shapes_left (edit.Source name position index sub) h = refl
    shapes_left (edit.Unsource name position) h = refl
    shapes_left (edit.Sink name position node index sub) h = refl
    shapes_left (edit.Unsink name position node) h = refl
    shapes_left (edit.Receive name node rpdo event) h = refl
    shapes_left (edit.Unreceive name node) h = refl
    shapes_left (edit.Event number e) h = refl
    shapes_left (edit.DropEvent number) h = refl

    steps_by : (e : Edit) → is_touched p e (part.Window i) ≡ false
        → steps_in (shape_of_node p) (made p e).events i ≡ steps_in (shape_of_node p) p.events i
        → window_steps (made p e) i ≡ window_steps p i
    unfolding window_steps
    steps_by e h same = ap (λ (s : Shapes). steps_in s (made p e).events i) (shapes_left e h) ∙ same

    abbrev lies : Option TimedEvent → Bool
    lies o = option_map_or (λ (e : TimedEvent). is_window_of i e.time) o false

    pub window_left : (e : Edit) → is_touched p e (part.Window i) ≡ false → window_steps (made p e) i ≡ window_steps p i
    window_left (edit.Version version) h = cc
    window_left (edit.Bitrate rate) h = steps_by (edit.Bitrate rate) h refl
    window_left (edit.Horizon time) h = steps_by (edit.Horizon time) h refl
    window_left (edit.Manager m) h = steps_by (edit.Manager m) h refl
    window_left (edit.TimeStamps stamps) h = steps_by (edit.TimeStamps stamps) h refl
    window_left (edit.SyncCounter last) h = steps_by (edit.SyncCounter last) h refl
    window_left (edit.Eds name text) h = cc
    window_left (edit.DropEds name) h = cc
    window_left (edit.Node id name eds) h = cc
    window_left (edit.Need id mandatory) h = steps_by (edit.Need id mandatory) h refl
    window_left (edit.DropNode id) h = cc
    window_left (edit.Param id index sub text) h = steps_by (edit.Param id index sub text) h refl
    window_left (edit.Unparam id index sub) h = steps_by (edit.Unparam id index sub) h refl
    window_left (edit.Message name m) h = steps_by (edit.Message name m) h refl
    window_left (edit.Start name start) h = steps_by (edit.Start name start) h refl
    window_left (edit.DropMessage name) h = steps_by (edit.DropMessage name) h refl
    window_left (edit.Source name position index sub) h =
        steps_by (edit.Source name position index sub) h refl
    window_left (edit.Unsource name position) h = steps_by (edit.Unsource name position) h refl
    window_left (edit.Sink name position node index sub) h =
        steps_by (edit.Sink name position node index sub) h refl
    window_left (edit.Unsink name position node) h = steps_by (edit.Unsink name position node) h refl
    window_left (edit.Receive name node rpdo event) h =
        steps_by (edit.Receive name node rpdo event) h refl
    window_left (edit.Unreceive name node) h = steps_by (edit.Unreceive name node) h refl
    window_left (edit.Event number e) h =
        let apart = neither (is_window_of i e.time) (is_window_at p.events number i) h in
        steps_by (edit.Event number e) h
        (steps_left i (shape_of_node p) p.events (insert p.events number e) number
        (λ n other. get-insert nat_cmp_total p.events number e n
        ∙ ap (λ t. cond t (Some e) (get p.events n)) (tied_apart n number other))
        apart.1
        (ap lies (put_there nat_cmp_total exact_unsigned p.events number e) ∙ apart.0))
    window_left (edit.DropEvent number) h =
        steps_by (edit.DropEvent number) h
        (steps_left i (shape_of_node p) p.events (remove p.events number) number
        (λ n other. get-remove nat_cmp_total p.events number n
        ∙ ap (λ t. cond t None (get p.events n)) (tied_apart n number other))
        h
        (ap lies (get-remove nat_cmp_total p.events number number
        ∙ ap (λ t. cond t None (get p.events number)) (tied_alike number))))

-- ---- all parts

left : (p : Project) (e : Edit) (q : Part) → is_touched p e q ≡ false → inputs_of (made p e) q ≡ inputs_of p q
left p e (part.Device name) apart = file_left p (part.Device name) refl e apart
left p e part.Plan apart = file_left p part.Plan refl e apart
left p e (part.Writes n) apart = file_left p (part.Writes n) refl e apart
left p e (part.Concise n) apart = file_left p (part.Concise n) refl e apart
left p e (part.Dcf n) apart = file_left p (part.Dcf n) refl e apart
left p e part.Roster apart = ap (λ (f : RosterFrom). Some (OfRoster f)) (roster_left p e apart)
left p e (part.Node n) apart = ap (option_map OfNode) (device_left p e n apart)
left p e part.Diagnostics apart = cc
left p e (part.Window i) apart = ap (λ (steps : List TimedStep). Some (OfWindow steps)) (window_left p i e apart)

-- an edit that is taken leaves what it doesn't touch as it was
pub frame : (p new : Project) (e : Edit) (q : Part) → accept p e ≡ Ok new → is_touched p e q ≡ false
    → inputs_of new q ≡ inputs_of p q
frame p new e q taken apart = ap (λ (r : Project). inputs_of r q) (sym (taken_as p new e taken)) ∙ left p e q apart
