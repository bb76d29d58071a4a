-- The lines of a script.
use Rattle.std.proofs.Common.{◌≡◌, ℕ, List, [], ◌∷◌, ◌++◌, map, append_assoc, refl}
use Rattle.std.specs.FinMap.{entries}
use Rattle.std.specs.List.{flat_map}
use Rattle.std.proofs.lemmas.List.Concat.{flat_map-append}
use Rattle.project_edits.specs.declared.edit.Edit.{Edit}
use Rattle.project_edits.specs.declared.edit.Edit.TheVariants as edit
use Rattle.project_messages.specs.declared.linked.Linked.{Linked}
use Rattle.project_edits.specs.Lines.{text_of}
use Rattle.co_project.specs.Project.{Content}
use Rattle.project_script.specs.Script.{counter_edits, edits, event_edit, message_edits, node_edits, param_edits}
use Rattle.project_script.specs.Script.{receive_edit, script, settings, sink_edit, source_edit, start_edits, text_edit}
use Rattle.project_script.specs.Script.{stamps_edits, version_edits}

-- the settings are the version, the bit rate, the horizon, the manager, the time stamps and the SYNC counter
pub settings_parts : (p : Content)
    → flat_map text_of (settings p)
    ≡ flat_map text_of (version_edits p.version) ++ text_of (edit.Bitrate p.bitrate)
    ++ text_of (edit.Horizon p.horizon) ++ text_of (edit.Manager p.manager)
    ++ flat_map text_of (stamps_edits p.time_stamps) ++ flat_map text_of (counter_edits p.sync_counter)
settings_parts p =
    parts (version_edits p.version) (edit.Bitrate p.bitrate) (edit.Horizon p.horizon) (edit.Manager p.manager)
    (stamps_edits p.time_stamps) (counter_edits p.sync_counter)
  where
    parts : (v : List Edit) (b h m : Edit) (t c : List Edit)
        → flat_map text_of (v ++ (b ∷ h ∷ m ∷ []) ++ t ++ c)
        ≡ flat_map text_of v ++ text_of b ++ text_of h ++ text_of m ++ flat_map text_of t ++ flat_map text_of c
    parts v b h m t c = simp (flat_map-append, append_assoc) refl

-- a message is its own line, that of its SYNC start value, and those of its sources, sinks and receives
pub linked_parts : (name : List ℕ) (l : Linked)
    → flat_map text_of (message_edits (name, l))
    ≡ text_of (edit.Message name l.message) ++ flat_map text_of (start_edits name l.start)
    ++ flat_map text_of (map (source_edit name) l.sources) ++ flat_map text_of (map (sink_edit name) l.sinks)
    ++ flat_map text_of (map (receive_edit name) l.receives)
linked_parts name l =
    parts (edit.Message name l.message) (start_edits name l.start) (map (source_edit name) l.sources)
    (map (sink_edit name) l.sinks) (map (receive_edit name) l.receives)
  where
    parts : (m : Edit) (a b c d : List Edit)
        → flat_map text_of (m ∷ (a ++ b ++ c ++ d)) ≡ text_of m ++ flat_map text_of a ++ flat_map text_of b
        ++ flat_map text_of c ++ flat_map text_of d
    parts m a b c d = simp (flat_map-append, append_assoc) refl

-- a message is written before others
pub message_written : (out new : List ℕ) (m : List ℕ × Linked) (others : List (List ℕ × Linked))
    → new ≡ out ++ flat_map text_of (message_edits m)
    → new ++ flat_map text_of (flat_map message_edits others)
    ≡ out ++ flat_map text_of (flat_map message_edits (m ∷ others))
message_written out new m others is = rw is (simp (flat_map-append, append_assoc) refl)

-- a script is its settings, texts, nodes, parameters, messages and events
pub script_parts : (p : Content)
    → script p ≡ flat_map text_of (settings p) ++ flat_map text_of (map text_edit (entries p.texts))
    ++ flat_map text_of (flat_map node_edits (entries p.nodes))
    ++ flat_map text_of (flat_map param_edits (entries p.nodes))
    ++ flat_map text_of (flat_map message_edits (entries p.messages))
    ++ flat_map text_of (map event_edit (entries p.events))
unfolding script edits
script_parts p =
    parts (settings p) (map text_edit (entries p.texts)) (flat_map node_edits (entries p.nodes))
    (flat_map param_edits (entries p.nodes)) (flat_map message_edits (entries p.messages))
    (map event_edit (entries p.events))
  where
    parts : (a b c d e f : List Edit)
        → flat_map text_of (a ++ b ++ c ++ d ++ e ++ f)
        ≡ flat_map text_of a ++ flat_map text_of b ++ flat_map text_of c ++ flat_map text_of d ++ flat_map text_of e
        ++ flat_map text_of f
    parts a b c d e f = simp flat_map-append refl
