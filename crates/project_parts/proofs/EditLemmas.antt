-- What an edit that is taken makes of a project.
use Rattle.std.proofs.Common.{◌≡◌, ℕ, Bool, true, false, not, ◌||◌, ◌&&◌, ◌==◌, List, [], ◌∷◌, Option, Some, None}
use Rattle.std.proofs.Common.{Result, Ok}
use Rattle.std.specs.FinMap.{contains_key, get, insert, remove}
use Rattle.std.specs.Option.{option_map_or}
use Rattle.project_edits.specs.declared.edit.Edit.{Edit}
use Rattle.project_edits.specs.declared.edit.Edit.TheVariants as edit
use Rattle.project_edits.specs.declared.fault.EditFault.{EditFault}
use Rattle.project_edits.specs.declared.fault.EditFault.TheVariants.{InUse, Limit, Range, Taken, Unknown}
use Rattle.project_edits.specs.Accepts.{unless}
use Rattle.project_edits.specs.Versions.{is_one, is_three}
use Rattle.project_messages.specs.Messages.{is_full_for as has_full_messages, is_of_messages, with_changed}
use Rattle.project_messages.specs.Messages.{with_message, with_sink, with_source, with_start, without_sink, without_source}
use Rattle.project_messages.specs.Messages.{are_received, has_receive, with_receive, without_receive}
use Rattle.node_parameters.specs.Params.{is_full_for, Texts as Params}
use Rattle.co_project.specs.declared.node.Node.{Node}
use Rattle.co_project.specs.Project.{accept, receive_by, with_nodes, Content as Project}
use Rattle.co_project.specs.Tables.{is_named, is_used, name_taken, put_need, put_node, with_param, without_param, Nodes}

-- the nodes, where that of a number, if it is there, is another one
abbrev pub with_node : Nodes → ℕ → (Node → Node) → Option Node → Nodes
with_node nodes id change o = option_map_or (λ node. insert nodes id (change node)) o nodes

-- a node with other parameters
abbrev pub other_params : (Params → Params) → Node → Node
other_params change node = record node { params = change node.params }

-- the nodes, where that of a number has other parameters
abbrev pub with_params : Nodes → ℕ → (Params → Params) → Option Node → Nodes
with_params nodes id change o = with_node nodes id (other_params change) o

abbrev pub changed_params : Project → ℕ → (Params → Params) → Project
changed_params p id change = record p { nodes = with_params p.nodes id change (get p.nodes id) }

-- the project that an edit makes where it is taken
abbrev pub made : Project → Edit → Project
made p (edit.Version version) = record p { version = version }
made p (edit.Bitrate rate) = record p { bitrate = rate }
made p (edit.Horizon time) = record p { horizon = time }
made p (edit.Manager m) = record p { manager = m }
made p (edit.TimeStamps stamps) = record p { time_stamps = stamps }
made p (edit.SyncCounter n) = record p { sync_counter = n }
made p (edit.Eds name text) = record p { texts = insert p.texts name text }
made p (edit.DropEds name) = record p { texts = remove p.texts name }
made p (edit.Node id name eds) = record p { nodes = put_node p.nodes id name eds }
made p (edit.Need id mandatory) = record p { nodes = put_need p.nodes id mandatory }
made p (edit.DropNode id) = record p { nodes = remove p.nodes id }
made p (edit.Param id index sub text) = changed_params p id (λ params. insert params (index, sub) text)
made p (edit.Unparam id index sub) = changed_params p id (λ params. remove params (index, sub))
made p (edit.Message name m) = record p { messages = with_message p.messages name m }
made p (edit.Start name n) = record p { messages = with_changed (with_start n) p.messages name }
made p (edit.DropMessage name) = record p { messages = remove p.messages name }
made p (edit.Source name position index sub) =
    record p { messages = with_changed (with_source position (index, sub)) p.messages name }
made p (edit.Unsource name position) =
    record p { messages = with_changed (without_source position) p.messages name }
made p (edit.Sink name position node index sub) =
    record p { messages = with_changed (with_sink position node (index, sub)) p.messages name }
made p (edit.Unsink name position node) =
    record p { messages = with_changed (without_sink position node) p.messages name }
made p (edit.Receive name node rpdo event) =
    record p { messages = with_changed (with_receive node (receive_by rpdo event)) p.messages name }
made p (edit.Unreceive name node) =
    record p { messages = with_changed (without_receive node) p.messages name }
made p (edit.Event number e) = record p { events = insert p.events number e }
made p (edit.DropEvent number) = record p { events = remove p.events number }

taken : (p q : Project) → ◌≡◌ {A = Result Project EditFault} (Ok p) (Ok q) → p ≡ q
taken p q h = cc

one_test : (t : Bool) (fault : EditFault) (new q : Project) → unless ((t, fault) ∷ []) new ≡ Ok q → new ≡ q
one_test true fault new q h = cc
one_test false fault new q h = cc

two_tests : (t u : Bool) (one other : EditFault) (new q : Project)
    → unless ((t, one) ∷ (u, other) ∷ []) new ≡ Ok q → new ≡ q
two_tests true u one other new q h = cc
two_tests false true one other new q h = cc
two_tests false false one other new q h = cc

nodes_test : (p : Project) (t : Bool) (fault : EditFault) (nodes : Nodes) (q : Project)
    → with_nodes p (unless ((t, fault) ∷ []) nodes) ≡ Ok q → record p { nodes = nodes } ≡ q
nodes_test p true fault nodes q h = cc
nodes_test p false fault nodes q h = cc

module _ (p new : Project) where
  put_param_taken : (id : ℕ) (place : ℕ × ℕ) (text : List ℕ) (o : Option Node)
      → with_nodes p (with_param p.nodes id place text o) ≡ Ok new
      → record p { nodes = with_params p.nodes id (λ params. insert params place text) o } ≡ new
  put_param_taken id place text None h = cc
  put_param_taken id place text (Some node) h = nodes_test p (is_full_for node.params place) _ _ new h

  drop_param_taken : (id : ℕ) (place : ℕ × ℕ) (o : Option Node)
      → with_nodes p (without_param p.nodes id place o) ≡ Ok new
      → record p { nodes = with_params p.nodes id (λ params. remove params place) o } ≡ new
  drop_param_taken id place None h = cc
  drop_param_taken id place (Some node) h = nodes_test p _ _ _ new h

  pub taken_as : (e : Edit) → accept p e ≡ Ok new → made p e ≡ new
  unfolding accept
  taken_as (edit.Version version) h = one_test _ _ (made p (edit.Version version)) new h
  taken_as (edit.Bitrate rate) h = taken (made p (edit.Bitrate rate)) new h
  taken_as (edit.Horizon time) h = taken (made p (edit.Horizon time)) new h
  taken_as (edit.Manager m) h = one_test _ _ (made p (edit.Manager m)) new h
  taken_as (edit.TimeStamps stamps) h = one_test _ _ (made p (edit.TimeStamps stamps)) new h
  taken_as (edit.SyncCounter n) h = taken (made p (edit.SyncCounter n)) new h
  taken_as (edit.Eds name text) h = one_test _ _ (made p (edit.Eds name text)) new h
  taken_as (edit.DropEds name) h =
      two_tests (not (contains_key p.texts name)) (is_used p.nodes name) Unknown InUse
      (made p (edit.DropEds name)) new h
  taken_as (edit.Node id name eds) h =
      two_tests (not (contains_key p.texts eds))
      (not (is_three p.version) && (id == p.manager.id) || name_taken p.nodes id name) Unknown Taken
      (made p (edit.Node id name eds)) new h
  taken_as (edit.Need id mandatory) h =
      two_tests (is_one p.version) (not (contains_key p.nodes id)) Range Unknown (made p (edit.Need id mandatory)) new h
  taken_as (edit.DropNode id) h =
      two_tests (not (contains_key p.nodes id))
      (is_of_messages id p.messages || are_received id p.messages || is_named p.events id) Unknown InUse
      (made p (edit.DropNode id)) new h
  taken_as (edit.Param id index sub text) h = put_param_taken id (index, sub) text (get p.nodes id) h
  taken_as (edit.Unparam id index sub) h = drop_param_taken id (index, sub) (get p.nodes id) h
  taken_as (edit.Message name m) h =
      two_tests (not (contains_key p.nodes m.node)) (has_full_messages p.messages name) Unknown Limit
      (made p (edit.Message name m)) new h
  taken_as (edit.Start name n) h = one_test _ _ (made p (edit.Start name n)) new h
  taken_as (edit.DropMessage name) h = one_test _ _ (made p (edit.DropMessage name)) new h
  taken_as (edit.Source name position index sub) h =
      one_test _ _ (made p (edit.Source name position index sub)) new h
  taken_as (edit.Unsource name position) h = one_test _ _ (made p (edit.Unsource name position)) new h
  taken_as (edit.Sink name position node index sub) h =
      one_test _ _ (made p (edit.Sink name position node index sub)) new h
  taken_as (edit.Unsink name position node) h = one_test _ _ (made p (edit.Unsink name position node)) new h
  taken_as (edit.Receive name node rpdo event) h =
      two_tests (not (is_three p.version)) (not (contains_key p.messages name) || not (contains_key p.nodes node)) Range Unknown
      (made p (edit.Receive name node rpdo event)) new h
  taken_as (edit.Unreceive name node) h =
      two_tests (not (is_three p.version)) (not (has_receive p.messages name node)) Range Unknown
      (made p (edit.Unreceive name node)) new h
  taken_as (edit.Event number e) h = one_test _ _ (made p (edit.Event number e)) new h
  taken_as (edit.DropEvent number) h = one_test _ _ (made p (edit.DropEvent number)) new h
