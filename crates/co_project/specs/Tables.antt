-- The tables of a project: texts of EDS by name, nodes by number and their parameters by entry, events by number (this
-- profile's own).
use Rattle.std.specs.Prelude.{ℕ, Bool, true, false, not, ◌&&◌, ◌==◌, nat_le, List, [], ◌∷◌, Option, Some, None}
use Rattle.std.specs.Prelude.{Result, Err}
use Rattle.std.specs.List.{list_any}
use Rattle.std.specs.Str.{bytes_eq}
use Rattle.std.specs.Ordering.{nat_cmp}
use Rattle.std.specs.FinMap.{FinMap, contains_key, empty, entries, get, insert, len, remove}
use Rattle.std.specs.Option.{option_map_or}
use Rattle.project_messages.specs.Messages.{name_cmp}
use Rattle.co_scenario.specs.declared.event.Event.{Event}
use Rattle.co_scenario.specs.Scenario.{Events, node_of}
use Rattle.node_parameters.specs.Params.{is_full_for}
use Rattle.co_project.specs.declared.node.Node.{Node}
use Rattle.project_edits.specs.declared.fault.EditFault.{EditFault}
use Rattle.project_edits.specs.declared.fault.EditFault.TheVariants.{Unknown, Limit}
use Rattle.project_edits.specs.Accepts.{unless}

-- the text of each EDS by its name
abbrev pub Texts : Type 0
Texts = FinMap name_cmp (List ℕ)

-- each node by its number
abbrev pub Nodes : Type 0
Nodes = FinMap nat_cmp Node

-- the text of an EDS
abbrev pub text_at : Texts → List ℕ → Option (List ℕ)
text_at texts name = get texts name

-- the node of a number
abbrev pub node_at : Nodes → ℕ → Option Node
node_at nodes id = get nodes id

-- a project has at most 64 texts: no new name can have one
abbrev pub has_no_room : Texts → List ℕ → Bool
has_no_room texts name = nat_le 64 (len texts) && not (contains_key texts name)

-- another node than that of this number has the name
abbrev pub name_taken : Nodes → ℕ → List ℕ → Bool
name_taken nodes id name = list_any (λ e. not (e.0 == id) && bytes_eq e.1.name name) (entries nodes)

-- a node uses the text of an EDS
abbrev pub is_used : Nodes → List ℕ → Bool
is_used nodes name = list_any (λ e. bytes_eq e.1.eds name) (entries nodes)

-- an event is of the node of this number
abbrev pub is_of : ℕ → Event → Bool
is_of id event = option_map_or (λ node. node == id) (node_of event) false

-- some node is mandatory
abbrev pub has_mandatory : Nodes → Bool
has_mandatory nodes = list_any (λ e. e.1.mandatory) (entries nodes)

-- some event is of the node of this number
abbrev pub is_named : Events → ℕ → Bool
is_named events id = list_any (λ e. is_of id e.1.event) (entries events)

-- the node that an event is of is there, or it is of all
abbrev pub is_of_known : Nodes → Event → Bool
is_of_known nodes event = option_map_or (contains_key nodes) (node_of event) true

-- a node with another name and EDS; a new one is optional and has no parameters
abbrev pub node_after_put : List ℕ → List ℕ → Option Node → Node
node_after_put name eds None = record { name = name; eds = eds; mandatory = false; params = empty }
node_after_put name eds (Some known) = record known { name = name; eds = eds }

-- the nodes, where that of a number gets a name and an EDS
abbrev pub put_node : Nodes → ℕ → List ℕ → List ℕ → Nodes
put_node nodes id name eds = insert nodes id (node_after_put name eds (get nodes id))

-- a node that is mandatory, or is so no more
abbrev pub with_need : Bool → Node → Node
with_need mandatory node = record node { mandatory = mandatory }

-- the nodes, where that of a number, if it is there, is mandatory or is so no more
abbrev pub put_need : Nodes → ℕ → Bool → Nodes
put_need nodes id mandatory = option_map_or (λ node. insert nodes id (with_need mandatory node)) (get nodes id) nodes

-- a node with the text of a parameter
abbrev pub with_param : Nodes → ℕ → ℕ × ℕ → List ℕ → Option Node → Result Nodes EditFault
with_param nodes id place text None = Err Unknown
with_param nodes id place text (Some node) =
    unless ((is_full_for node.params place, Limit) ∷ [])
    (insert nodes id (record node { params = insert node.params place text }))

-- the nodes, where that of a number gets the text of a parameter
abbrev pub put_param : Nodes → ℕ → ℕ × ℕ → List ℕ → Result Nodes EditFault
put_param nodes id place text = with_param nodes id place text (get nodes id)

-- the node of a number has no text for an entry yet
abbrev pub adds_param : Nodes → ℕ → ℕ × ℕ → Bool
adds_param nodes id place = option_map_or (λ node. not (contains_key node.params place)) (get nodes id) false

-- a node without a parameter
abbrev pub without_param : Nodes → ℕ → ℕ × ℕ → Option Node → Result Nodes EditFault
without_param nodes id place None = Err Unknown
without_param nodes id place (Some node) =
    unless ((not (contains_key node.params place), Unknown) ∷ [])
    (insert nodes id (record node { params = remove node.params place }))

-- the nodes, where that of a number loses a parameter
abbrev pub drop_param : Nodes → ℕ → ℕ × ℕ → Result Nodes EditFault
drop_param nodes id place = without_param nodes id place (get nodes id)
