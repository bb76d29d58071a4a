-- What edits leave of what the files are made of.
use Rattle.std.proofs.Common.{◌≡◌, ℕ, Bool, true, false, cond, ◌==◌, ◌&&◌, ◌||◌, List, [], ◌∷◌, map, filter_map, Option}
use Rattle.std.proofs.Common.{Some, None, option_map, option_and_then, refl, sym, ap, ◌∙◌}
use Rattle.std.specs.FinMap.{entries, get, get-insert, get-remove, insert, remove}
use Rattle.std.specs.Ordering.{eq_by_cmp, nat_cmp}
use Rattle.std.specs.Prelude.{if◌then◌else◌}
use Rattle.std.proofs.lemmas.Bool.{eq-eqb, or_parts}
use Rattle.std.proofs.lemmas.Cmp.{nat_cmp_total, nat_list_cmp_total}
use Rattle.std.proofs.lemmas.Map.Lookups.{exact_unsigned}
use Rattle.base.proofs.TableLemmas.{alike}
use Rattle.eds_device.specs.Sheets.{Sheet}
use Rattle.project_edits.specs.declared.edit.Edit.{Edit}
use Rattle.project_edits.specs.declared.edit.Edit.TheVariants as edit
use Rattle.project_edits.specs.declared.manager_settings.ManagerSettings.{ManagerSettings}
use Rattle.project_edits.specs.declared.script_version.ScriptVersion.{ScriptVersion}
use Rattle.project_edits.specs.Versions.{is_three}
use Rattle.project_messages.specs.Messages.{name_cmp, Named}
use Rattle.node_parameters.specs.Params.{Texts as Params}
use Rattle.co_project.specs.declared.node.Node.{Node}
use Rattle.co_project.specs.Project.{controller_of, first, is_controller, Content as Project}
use Rattle.co_project.specs.Tables.{node_at, text_at, with_need, Nodes, Texts}
use Rattle.part_shelves.specs.SheetText.{sheet_text}
use Rattle.project_parts.specs.Made.{plan_made, writes_made}
use Rattle.project_parts.specs.Given.{dcf_of_node, inputs_of, node_with_device, plan_from, writes_from, writes_of_node}
use Rattle.project_plan.specs.Network.{device_at}
use Rattle.project_parts.specs.Reached.{of_node, of_nodes}
use Rattle.project_parts.specs.Given.{OfConcise, OfDcf, OfDevice, OfPlan, OfWrites, Given}
use Rattle.project_parts.specs.Touched.{goes_into, holds_writes, is_held_of, is_of_manager, is_of_network, is_of_node, is_of_text}
use Rattle.project_parts.specs.Touched.{is_planned, is_touched, moves_controller, reads_version, says_rate}
use Rattle.project_parts.specs.Touch.{touch_of}
use Rattle.project_parts.specs.declared.dcf_from.DcfFrom.{DcfFrom}
use Rattle.project_parts.specs.declared.plan_from.PlanFrom.{PlanFrom}
use Rattle.project_parts.specs.declared.writes_from.WritesFrom.{WritesFrom}
use Rattle.project_parts.specs.declared.part.Part.{Part}
use Rattle.project_parts.specs.declared.part.Part.TheVariants as part
use Rattle.project_parts.proofs.ControllerLemmas.{same_controller, still_there}
use Rattle.project_parts.proofs.EditLemmas.{made, other_params, with_node, with_params}
use Rattle.project_parts.proofs.EntriesAlike.{entries_alike, filter_shown, shown}

-- what files are made of
abbrev pub is_filed : Part → Bool
is_filed part.Roster = false
is_filed (part.Node n) = false
is_filed (part.Window i) = false
is_filed part.Diagnostics = false
is_filed others = true

-- ---- what of a project these are made from

-- the version, the bit rate, the manager, texts, nodes and messages alone
abbrev core : ScriptVersion → ℕ → ManagerSettings → Texts → Nodes → Named → Project
core v rate g t n m = record first { version = v; bitrate = rate; manager = g; texts = t; nodes = n; messages = m }

in_core : (p : Project) (q : Part) → is_filed q ≡ true
    → inputs_of p q ≡ inputs_of (core p.version p.bitrate p.manager p.texts p.nodes p.messages) q
in_core p (part.Device e) file = refl
in_core p part.Plan file = refl
in_core p (part.Writes n) file = refl
in_core p (part.Concise n) file = refl
in_core p (part.Dcf n) file = refl
in_core p others file = cc

-- what no bit rate changes
any_rate : (v : ScriptVersion) (rate other : ℕ) (g : ManagerSettings) (t : Texts) (n : Nodes) (m : Named) (q : Part)
    → says_rate q ≡ false → is_filed q ≡ true → inputs_of (core v rate g t n m) q ≡ inputs_of (core v other g t n m) q
any_rate v rate other g t n m (part.Device e) h file = refl
any_rate v rate other g t n m part.Plan h file = refl
any_rate v rate other g t n m (part.Writes k) h file = refl
any_rate v rate other g t n m (part.Concise k) h file = refl
any_rate v rate other g t n m (part.Dcf k) h file = cc
any_rate v rate other g t n m others h file = cc

module _ (p new : Project) where
  same_core : new.version ≡ p.version → new.manager ≡ p.manager → new.texts ≡ p.texts → new.nodes ≡ p.nodes
      → new.messages ≡ p.messages → (q : Part)
      → inputs_of (core new.version new.bitrate new.manager new.texts new.nodes new.messages) q
      ≡ inputs_of (core p.version new.bitrate p.manager p.texts p.nodes p.messages) q
  same_core v g t n m q =
      ap (λ (x : ScriptVersion). inputs_of (core x new.bitrate new.manager new.texts new.nodes new.messages) q) v
      ∙ ap (λ (x : ManagerSettings). inputs_of (core p.version new.bitrate x new.texts new.nodes new.messages) q) g
      ∙ ap (λ (x : Texts). inputs_of (core p.version new.bitrate p.manager x new.nodes new.messages) q) t
      ∙ ap (λ (x : Nodes). inputs_of (core p.version new.bitrate p.manager p.texts x new.messages) q) n
      ∙ ap (λ (x : Named). inputs_of (core p.version new.bitrate p.manager p.texts p.nodes x) q) m

  pub settings_left : new.version ≡ p.version → new.bitrate ≡ p.bitrate → new.manager ≡ p.manager → new.texts ≡ p.texts
      → new.nodes ≡ p.nodes → new.messages ≡ p.messages → (q : Part) → is_filed q ≡ true → inputs_of new q ≡ inputs_of p q
  settings_left v r g t n m q file =
      in_core new q file ∙ same_core v g t n m q
      ∙ ap (λ (x : ℕ). inputs_of (core p.version x p.manager p.texts p.nodes p.messages) q) r
      ∙ sym (in_core p q file)

  -- what doesn't say the bit rate, where that is another
  pub rate_left : new.version ≡ p.version → new.manager ≡ p.manager → new.texts ≡ p.texts → new.nodes ≡ p.nodes
      → new.messages ≡ p.messages → (q : Part)
      → says_rate q ≡ false → is_filed q ≡ true → inputs_of new q ≡ inputs_of p q
  rate_left v g t n m q h file =
      in_core new q file ∙ same_core v g t n m q
      ∙ any_rate p.version new.bitrate p.bitrate p.manager p.texts p.nodes p.messages q h file
      ∙ sym (in_core p q file)

  -- what a device is to be read from
  abbrev device_by : ScriptVersion → Option (List ℕ) → Option Given
  device_by v text = option_map OfDevice (option_map (sheet_text (is_three v)) text)

  -- devices, where the version and the texts are the same
  pub devices_left : new.version ≡ p.version → new.texts ≡ p.texts → (q : Part) → is_planned q ≡ false → is_filed q ≡ true
      → inputs_of new q ≡ inputs_of p q
  devices_left v t (part.Device e) h file =
      ap (λ (x : ScriptVersion). device_by x (text_at new.texts e)) v
      ∙ ap (λ (x : Texts). device_by p.version (text_at x e)) t
  devices_left v t part.Plan h file = cc
  devices_left v t (part.Writes n) h file = cc
  devices_left v t (part.Concise n) h file = cc
  devices_left v t (part.Dcf n) h file = cc
  devices_left v t others h file = cc

  -- other devices, where a text is another
  pub texts_left : new.version ≡ p.version → (name : List ℕ) (o : Option (List ℕ))
      → ((e : List ℕ) → text_at new.texts e ≡ cond (eq_by_cmp name_cmp e name) o (text_at p.texts e))
      → (q : Part) → is_of_text name q ≡ false → is_filed q ≡ true → inputs_of new q ≡ inputs_of p q
  texts_left v name o t (part.Device e) h file =
      ap (λ (x : ScriptVersion). device_by x (text_at new.texts e)) v
      ∙ ap (device_by p.version) (t e ∙ ap (λ b. cond b o (text_at p.texts e)) h)
  texts_left v name o t part.Plan h file = cc
  texts_left v name o t (part.Writes n) h file = cc
  texts_left v name o t (part.Concise n) h file = cc
  texts_left v name o t (part.Dcf n) h file = cc
  texts_left v name o t others h file = cc

-- ---- where the plan is made from this

module _ (p : Project) (n : ℕ) where
  -- what the writes of a node are built from, with its node
  abbrev writes_with : PlanFrom → Node → Option WritesFrom
  writes_with f node =
      option_map (λ d. record {
        is_three = is_three p.version;
        plan = plan_made f;
        params = node.params;
        device = d;
        node = n;
      })
      (device_at p node.eds)

  abbrev writes_by : PlanFrom → Option WritesFrom
  writes_by f = option_and_then (writes_with f) (node_at p.nodes n)

  -- and its DCF
  abbrev dcf_by : PlanFrom → Option DcfFrom
  dcf_by f =
      option_and_then (λ (node : Node). option_map (λ (w : WritesFrom). record {
        device = w.device;
        name = node.name;
        rate = p.bitrate;
        writes = writes_made w;
        node = n;
      }) (writes_with f node)) (node_at p.nodes n)

-- ---- a node of the same EDS in the place of one

module _ (p : Project) (id : ℕ) (node other : Node) (there : get p.nodes id ≡ Some node) (eds : other.eds ≡ node.eds) where
  abbrev changed : Project
  changed = record p { nodes = insert p.nodes id other }

  abbrev by_eds : ℕ × List ℕ → Option (ℕ × Sheet)
  by_eds e = option_map (λ d. (e.0, d)) (device_at p e.1)

  abbrev plan_with : Option ℕ → List (ℕ × Sheet) → PlanFrom
  plan_with c ds = record { is_three = is_three p.version; controller = c; devices = ds; messages = p.messages }

  changed_controller : controller_of changed ≡ controller_of p
  changed_controller =
      ap (λ t. let none : Option ℕ = None in if t then Some p.manager.id else none)
      (still_there p.nodes id node other there p.manager.id)

  same_plan : plan_from changed ≡ plan_from p
  same_plan =
      ap (λ c. plan_with c (filter_map (node_with_device p) (entries (insert p.nodes id other)))) changed_controller
      ∙ ap (plan_with (controller_of p))
      (filter_shown (λ (n : Node). n.eds) by_eds (entries (insert p.nodes id other))
      ∙ ap (filter_map by_eds)
      (entries_alike (λ (n : Node). n.eds) nat_cmp_total exact_unsigned p.nodes id node other there eds)
      ∙ sym (filter_shown (λ (n : Node). n.eds) by_eds (entries p.nodes)))

  other_node : (n : ℕ) → (n == id) ≡ false → node_at changed.nodes n ≡ node_at p.nodes n
  other_node n apart = get-insert nat_cmp_total p.nodes id other n ∙ by (eq_by_cmp nat_cmp n id) refl
    where
      by : (t : Bool) → eq_by_cmp nat_cmp n id ≡ t → cond t (Some other) (get p.nodes n) ≡ get p.nodes n
      by true same = let e : (n == id) ≡ true = eq-eqb n id (alike nat_cmp_total exact_unsigned n id same) in cc
      by false others = refl

  -- what is made of the node of a number, where it is made alike of both
  made_alike : {X : Type 0} (make : Node → Option X) → make other ≡ make node → (n : ℕ)
      → option_and_then make (node_at changed.nodes n) ≡ option_and_then make (node_at p.nodes n)
  made_alike make same n =
      ap (option_and_then make) (get-insert nat_cmp_total p.nodes id other n) ∙ by (eq_by_cmp nat_cmp n id) refl
    where
      by : (t : Bool) → eq_by_cmp nat_cmp n id ≡ t
          → option_and_then make (cond t (Some other) (get p.nodes n)) ≡ option_and_then make (get p.nodes n)
      by true one =
          same
          ∙ ap (option_and_then make) (sym (ap (get p.nodes) (alike nat_cmp_total exact_unsigned n id one) ∙ there))
      by false others = refl

  -- the writes of another node
  same_writes : (n : ℕ) → (n == id) ≡ false → writes_from changed n ≡ writes_from p n
  same_writes n apart =
      ap (option_and_then (writes_of_node changed n)) (other_node n apart) ∙ ap (writes_by p n) same_plan

  pub params_left : (q : Part) → is_of_node id q ≡ false → is_filed q ≡ true → inputs_of changed q ≡ inputs_of p q
  params_left (part.Device e) h file = refl
  params_left part.Plan h file = ap (λ f. Some (OfPlan f)) same_plan
  params_left (part.Writes n) h file = ap (option_map OfWrites) (same_writes n h)
  params_left (part.Concise n) h file =
      ap (λ o. option_map OfConcise (option_map (λ w. record { writes = writes_made w }) o)) (same_writes n h)
  params_left (part.Dcf n) h file =
      ap (λ o. option_map OfDcf (option_and_then (dcf_of_node changed n) o)) (other_node n h)
      ∙ ap (λ f. option_map OfDcf (dcf_by p n f)) same_plan
  params_left others h file = cc

-- ---- whether a node is mandatory

module _ (p : Project) (id : ℕ) (node : Node) (mandatory : Bool) (there : get p.nodes id ≡ Some node) where
  abbrev needed_node : Node
  needed_node = with_need mandatory node

  abbrev needed : Project
  needed = changed p id node needed_node there refl

  needed_plan : plan_from needed ≡ plan_from p
  needed_plan = same_plan p id node needed_node there refl

  needed_writes : (n : ℕ) → writes_from needed n ≡ writes_from p n
  needed_writes n =
      made_alike p id node needed_node there refl (writes_of_node needed n) refl n
      ∙ ap (writes_by p n) needed_plan

  pub need_left : (q : Part) → is_filed q ≡ true → inputs_of needed q ≡ inputs_of p q
  need_left (part.Device e) file = refl
  need_left part.Plan file = ap (λ f. Some (OfPlan f)) needed_plan
  need_left (part.Writes n) file = ap (option_map OfWrites) (needed_writes n)
  need_left (part.Concise n) file =
      ap (λ o. option_map OfConcise (option_map (λ w. record { writes = writes_made w }) o)) (needed_writes n)
  need_left (part.Dcf n) file =
      ap (option_map OfDcf) (made_alike p id node needed_node there refl (dcf_of_node needed n) refl n)
      ∙ ap (λ f. option_map OfDcf (dcf_by p n f)) needed_plan
  need_left others file = cc

-- ---- the number of the manager

pub moves_none : (t : Bool) → t && true ≡ false → t ≡ false
moves_none true h = h
moves_none false h = refl

module _ (p : Project) (m : ManagerSettings) where
  abbrev managed : Project
  managed = record p { manager = m }

  -- what files are made of, where the plan is made from this
  abbrev with_plan : PlanFrom → Part → Option Given
  with_plan f part.Plan = Some (OfPlan f)
  with_plan f (part.Writes n) = option_map OfWrites (writes_by p n f)
  with_plan f (part.Concise n) =
      option_map OfConcise (option_map (λ w. record { writes = writes_made w }) (writes_by p n f))
  with_plan f (part.Dcf n) = option_map OfDcf (dcf_by p n f)
  with_plan f others = None

  plan_left : moves_controller p m.id ≡ false → plan_from managed ≡ plan_from p
  plan_left unmoved =
      ap (λ (c : Option ℕ). let f : PlanFrom = record {
        is_three = is_three p.version;
        controller = c;
        devices = filter_map (node_with_device p) (entries p.nodes);
        messages = p.messages;
      } in f) (same_controller p m unmoved)

  same_with : (q : Part) → moves_controller p m.id && true ≡ false
      → with_plan (plan_from managed) q ≡ with_plan (plan_from p) q
  same_with q h = ap (λ f. with_plan f q) (plan_left (moves_none (moves_controller p m.id) h))

  -- the same, where it moves no controller
  manager_left : (q : Part) → is_filed q ≡ true → is_of_manager p m.id q ≡ false → inputs_of managed q ≡ inputs_of p q
  manager_left (part.Device e) file h = refl
  manager_left part.Plan file h = same_with part.Plan h
  manager_left (part.Writes n) file h = same_with (part.Writes n) h
  manager_left (part.Concise n) file h = same_with (part.Concise n) h
  manager_left (part.Dcf n) file h = same_with (part.Dcf n) h
  manager_left others file h = cc

-- ---- an edit

-- of the parts of files a node goes into those that are planned
not_planned : (id : ℕ) (q : Part) → is_filed q ≡ true → is_of_network id q ≡ false → is_planned q ≡ false
not_planned id (part.Device e) file h = refl
not_planned id part.Plan file h = cc
not_planned id (part.Writes n) file h = cc
not_planned id (part.Concise n) file h = cc
not_planned id (part.Dcf n) file h = cc
not_planned id others file h = cc

-- and the version into each
each_versioned : (q : Part) → is_filed q ≡ true → reads_version q ≡ false → ⊥
each_versioned part.Diagnostics file h = cc
each_versioned others file h = cc

module _ (p : Project) (q : Part) (file : is_filed q ≡ true) where
  params_as : (id : ℕ) (change : Params → Params) (o : Option Node) → get p.nodes id ≡ o → is_of_node id q ≡ false
      → inputs_of (record p { nodes = with_params p.nodes id change o }) q ≡ inputs_of p q
  params_as id change None none apart = refl
  params_as id change (Some node) there apart =
      params_left p id node (other_params change node) there refl q apart file

  need_as : (id : ℕ) (mandatory : Bool) (o : Option Node) → get p.nodes id ≡ o
      → inputs_of (record p { nodes = with_node p.nodes id (with_need mandatory) o }) q ≡ inputs_of p q
  need_as id mandatory None none = refl
  need_as id mandatory (Some node) there = need_left p id node mandatory there q file

  -- neither version, bit rate, manager, texts, nodes nor messages
  nothing_left : (new : Project) → new.version ≡ p.version → new.bitrate ≡ p.bitrate → new.manager ≡ p.manager
      → new.texts ≡ p.texts → new.nodes ≡ p.nodes → new.messages ≡ p.messages → inputs_of new q ≡ inputs_of p q
  nothing_left new v r g t n m = settings_left p new v r g t n m q file

  -- what isn't made of messages
  planned_parts : is_planned q || holds_writes p q ≡ false → is_planned q ≡ false
  planned_parts h = (or_parts (is_planned q) (holds_writes p q) h).0

  -- an edit leaves what it doesn't touch as it was
  pub file_left : (e : Edit) → goes_into p (touch_of e) q ≡ false → inputs_of (made p e) q ≡ inputs_of p q
  file_left (edit.Version version) h =
      absurd (each_versioned q file h)
  file_left (edit.Bitrate rate) h = rate_left p (made p (edit.Bitrate rate)) refl refl refl refl refl q h file
  file_left (edit.Horizon time) h = nothing_left (made p (edit.Horizon time)) refl refl refl refl refl refl
  file_left (edit.Manager m) h = manager_left p m q file h
  file_left (edit.TimeStamps stamps) h = nothing_left (made p (edit.TimeStamps stamps)) refl refl refl refl refl refl
  file_left (edit.SyncCounter n) h = nothing_left (made p (edit.SyncCounter n)) refl refl refl refl refl refl
  file_left (edit.Eds name text) h =
      texts_left p (made p (edit.Eds name text)) refl name (Some text)
      (λ e. get-insert nat_list_cmp_total p.texts name text e) q h file
  file_left (edit.DropEds name) h =
      texts_left p (made p (edit.DropEds name)) refl name None (λ e. get-remove nat_list_cmp_total p.texts name e) q h file
  file_left (edit.Node id name eds) h =
      devices_left p (made p (edit.Node id name eds)) refl refl q (not_planned id q file (or_parts (is_of_network id q) (holds_writes p q) h).0) file
  file_left (edit.Need id mandatory) h = need_as id mandatory (get p.nodes id) refl
  file_left (edit.DropNode id) h =
      devices_left p (made p (edit.DropNode id)) refl refl q (not_planned id q file (or_parts (is_of_network id q) (holds_writes p q) h).0) file
  file_left (edit.Param id index sub text) h = params_as id (λ ps. insert ps (index, sub) text) (get p.nodes id) refl
      (or_parts (is_of_node id q) (is_controller p id && is_held_of id q) h).0
  file_left (edit.Unparam id index sub) h = params_as id (λ ps. remove ps (index, sub)) (get p.nodes id) refl
      (or_parts (is_of_node id q) (is_controller p id && is_held_of id q) h).0
  file_left (edit.Message name m) h = devices_left p (made p (edit.Message name m)) refl refl q (planned_parts h) file
  file_left (edit.Start name n) h = devices_left p (made p (edit.Start name n)) refl refl q (planned_parts h) file
  file_left (edit.DropMessage name) h = devices_left p (made p (edit.DropMessage name)) refl refl q (planned_parts h) file
  file_left (edit.Source name position index sub) h =
      devices_left p (made p (edit.Source name position index sub)) refl refl q (planned_parts h) file
  file_left (edit.Unsource name position) h = devices_left p (made p (edit.Unsource name position)) refl refl q (planned_parts h) file
  file_left (edit.Sink name position node index sub) h =
      devices_left p (made p (edit.Sink name position node index sub)) refl refl q (planned_parts h) file
  file_left (edit.Unsink name position node) h = devices_left p (made p (edit.Unsink name position node)) refl refl q (planned_parts h) file
  file_left (edit.Receive name node rpdo event) h =
      devices_left p (made p (edit.Receive name node rpdo event)) refl refl q (planned_parts h) file
  file_left (edit.Unreceive name node) h = devices_left p (made p (edit.Unreceive name node)) refl refl q (planned_parts h) file
  file_left (edit.Event number e) h = nothing_left (made p (edit.Event number e)) refl refl refl refl refl refl
  file_left (edit.DropEvent number) h = nothing_left (made p (edit.DropEvent number)) refl refl refl refl refl refl

-- ---- the devices of the nodes

abbrev eds_of : ℕ × Node → ℕ × List ℕ
eds_of = shown (λ (n : Node). n.eds)

abbrev named : ℕ × List ℕ → Part
named e = part.Device e.1

of_shown : (es : List (ℕ × Node)) → map of_node es ≡ map named (map eds_of es)
of_shown [] = refl
of_shown (e ∷ es) = ap (λ qs. part.Device e.1.eds ∷ qs) (of_shown es)

module _ (p : Project) where
  abbrev SameNodes : Project → Type 0
  SameNodes new = of_nodes new ≡ of_nodes p

  changed_same : (id : ℕ) (node other : Node) (there : get p.nodes id ≡ Some node) (eds : other.eds ≡ node.eds)
      → SameNodes (changed p id node other there eds)
  changed_same id node other there eds =
      of_shown (entries (insert p.nodes id other))
      ∙ ap (map named)
      (entries_alike (λ (n : Node). n.eds) nat_cmp_total exact_unsigned p.nodes id node other there eds)
      ∙ sym (of_shown (entries p.nodes))

  same_eds : (id : ℕ) (change : Node → Node) → ((node : Node) → (change node).eds ≡ node.eds) → (o : Option Node)
      → get p.nodes id ≡ o → SameNodes (record p { nodes = with_node p.nodes id change o })
  same_eds id change same None none = refl
  same_eds id change same (Some node) there = changed_same id node (change node) there (same node)

  -- an edit that doesn't touch the plan leaves the nodes with their EDS
  pub nodes_left : (e : Edit) → is_touched p e part.Plan ≡ false → SameNodes (made p e)
  nodes_left (edit.Version version) h = refl
  nodes_left (edit.Bitrate rate) h = refl
  nodes_left (edit.Horizon time) h = refl
  nodes_left (edit.Manager m) h = refl
  nodes_left (edit.TimeStamps stamps) h = refl
  nodes_left (edit.SyncCounter n) h = refl
  nodes_left (edit.Eds name text) h = cc
  nodes_left (edit.DropEds name) h = cc
  nodes_left (edit.Node id name eds) h = cc
  nodes_left (edit.Need id mandatory) h = same_eds id (with_need mandatory) (λ node. refl) (get p.nodes id) refl
  nodes_left (edit.DropNode id) h = cc
  nodes_left (edit.Param id index sub text) h =
      same_eds id (other_params (λ ps. insert ps (index, sub) text)) (λ node. refl) (get p.nodes id) refl
  nodes_left (edit.Unparam id index sub) h =
      same_eds id (other_params (λ ps. remove ps (index, sub))) (λ node. refl) (get p.nodes id) refl
  nodes_left (edit.Message name m) h = cc
  nodes_left (edit.Start name n) h = cc
  nodes_left (edit.DropMessage name) h = cc
  nodes_left (edit.Source name position index sub) h = cc
  nodes_left (edit.Unsource name position) h = cc
  nodes_left (edit.Sink name position node index sub) h = cc
  nodes_left (edit.Unsink name position node) h = cc
  nodes_left (edit.Receive name node rpdo event) h = cc
  nodes_left (edit.Unreceive name node) h = cc
  nodes_left (edit.Event number e) h = refl
  nodes_left (edit.DropEvent number) h = refl
