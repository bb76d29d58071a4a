-- The commands that scripts have most of: no other command has their first word.
use Rattle.std.proofs.Common.{◌≡◌, ℕ, true, List, refl}
use Rattle.std.specs.Prelude.{codes}
use Rattle.std.specs.Str.{bytes_eq}
use Rattle.std.proofs.lemmas.Slice.Eq.{bytes_eq-Decides}
use Rattle.script_commands.specs.Links.{sink_of}
use Rattle.script_commands.specs.Requests.{command_of, link_of, edit_request, event_of, param_of}

pub is_param : (first rest : List ℕ) → bytes_eq first (codes "param") ≡ true
    → command_of first rest ≡ edit_request (param_of rest)
unfolding command_of
is_param first rest same = rw ((bytes_eq-Decides first (codes "param")).0 same) refl

pub is_event : (first rest : List ℕ) → bytes_eq first (codes "event") ≡ true
    → command_of first rest ≡ edit_request (event_of rest)
unfolding command_of
is_event first rest same = rw ((bytes_eq-Decides first (codes "event")).0 same) refl

pub is_sink : (first rest : List ℕ) → bytes_eq first (codes "sink") ≡ true
    → command_of first rest ≡ edit_request (sink_of rest)
unfolding command_of link_of
is_sink first rest same = rw ((bytes_eq-Decides first (codes "sink")).0 same) refl

pub ruleset frequent_commands = (is_param, is_event, is_sink)
