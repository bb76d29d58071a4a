use Rattle.configured_laws.proofs.SendingLemmas.{sends_or_told}
use Rattle.configured_laws.proofs.in_version_3_each_tpdo_that_is_on_is_of_a_message_or_reported.Goals as goal

pub returns : goal.returns
returns c = λ project id m number three node numbered on.
    sends_or_told project id m number three node (record {
      sent_alone = λ message. c.each_pdo_is_had_once.ensures.sent project id message node.sound;
      taken_alone = λ message k. c.each_pdo_is_had_once.ensures.taken project id message k node.sound;
      sent = λ message. c.the_writes_to_a_pdo_are_those_of_its_message.ensures.sent project id m message node;
      taken = λ message k. c.the_writes_to_a_pdo_are_those_of_its_message.ensures.taken project id m message k node;
      whose = λ w. c.the_writes_to_pdos_are_those_of_the_nodes_messages.ensures.of_messages project id m w node;
    }) numbered on
