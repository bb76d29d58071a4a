-- What clean messages have, and what is withheld from the plan's own choice.
use Rattle.std.specs.Prelude.{ℕ, ◌==◌, Bool, ◌&&◌, ◌||◌, List, is_some}
use Rattle.std.specs.List.{list_any}
use Rattle.project_messages.specs.declared.linked.Linked.{Linked}
use Rattle.pdo_choices.specs.declared.consumer.Consumer.{Consumer}
use Rattle.pdo_choices.specs.declared.clean.Clean.{Clean}
use Rattle.pdo_stations.specs.Devices.{Devices}
use Rattle.vendor_pdos.specs.Fixed.{is_withheld}
use Rattle.pdo_choices.specs.Receives.{names_rpdo}

-- what a project withholds from the plan's own choice: identifiers that closed PDOs wait for, and RPDOs of nodes that
-- receives name
pub record Withheld : Type 0 where
  pub identifier : ℕ → Bool
  pub rpdo : ℕ → ℕ → Bool

-- what is had: an identifier; a TPDO and an RPDO of a node; and what is withheld
pub record Had : Type 0 where
  pub identifier : ℕ → Bool
  pub tpdo : ℕ → ℕ → Bool
  pub rpdo : ℕ → ℕ → Bool
  pub withheld : Withheld

abbrev pub is_at_node : ℕ → ℕ → Consumer → Bool
is_at_node node number consumer = (consumer.node == node) && (consumer.rpdo == number)

-- what clean messages have
abbrev pub had_by : Withheld → List Clean → Had
had_by withheld cs = record {
  identifier = λ id. list_any (λ c. c.identifier == id) cs;
  tpdo = λ node number. list_any (λ c. (c.message.node == node) && (c.message.tpdo == number)) cs;
  rpdo = λ node number. list_any (λ c. list_any (is_at_node node number) c.consumers) cs;
  withheld = withheld;
}

-- what is had when one more clean message has its own
abbrev pub had_too : Had → Clean → Had
had_too had c = record {
  identifier = λ id. had.identifier id || c.identifier == id;
  tpdo = λ node number. had.tpdo node number || ((c.message.node == node) && (c.message.tpdo == number));
  rpdo = λ node number. had.rpdo node number || list_any (is_at_node node number) c.consumers;
  withheld = had.withheld;
}

-- what the devices of a project and its messages withhold in version 3; in other versions nothing
unfoldable pub withheld_by : Devices → List (List ℕ × Linked) → Withheld
withheld_by devices ms = record {
  identifier = is_withheld devices;
  rpdo = λ node number. is_some devices.vendor && list_any (λ m. names_rpdo node number m.1) ms;
}
