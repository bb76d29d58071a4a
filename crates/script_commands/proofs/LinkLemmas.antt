-- The commands of messages: what is read behind the first word of each, and the printed line of each read again.
use Rattle.std.proofs.Common.{◌≡◌, ℕ, ◌^◌, ◌<◌, true, List, [], ◌∷◌, refl, ap, lit≤, arith}
use Rattle.std.specs.Prelude.{Ok, codes, decimal}
use Rattle.base.specs.Words.{after}
use Rattle.base.specs.Digits.{byte_digits, index_digits, identifier_digits}
use Rattle.base.specs.Ranges.{is_between, AreIndices}
use Rattle.project_messages.specs.declared.message.Message.{Message}
use Rattle.project_messages.specs.Messages.{IsMessage, is_position, is_rpdo_or_any, is_start}
use Rattle.project_edits.specs.declared.edit.Edit.TheVariants as edit
use Rattle.project_edits.specs.Forms.{is_name}
use Rattle.cia301.specs.Limits.{is_pdo_number, is_node_number}
use Rattle.project_edits.specs.Lines.{words_of, line_of}
use Rattle.script_commands.specs.declared.stated.Stated.{Stated}
use Rattle.script_commands.specs.declared.request.Request.TheVariants.{Edit as EditAsked}
use Rattle.script_commands.specs.Links.{stated_numbers, message_within, message_of, drop_message_of, source_of, unsource_of}
use Rattle.script_commands.specs.Links.{receive_of, sink_of, start_of, unreceive_of, unsink_of}
use Rattle.script_commands.specs.Requests.{command_of, link_of, edit_request}
use Rattle.script_commands.proofs.NumberLemmas.{number_word, index_is_word, sub_is_word, identifier_is_word, name_word}
use Rattle.script_commands.proofs.NumberLemmas.{decimal_again, index_again, sub_again, identifier_again}
use Rattle.script_commands.proofs.LineLemmas.{Has, Ends, last, more, IsRead, command}
use Rattle.script_commands.proofs.CommandLemmas.{most, id_below, short_below}

-- ---- limits

tpdo_below : (n : ℕ) → is_pdo_number n ≡ true → n < 10 ^ 10
tpdo_below n fits = omega (arith, most 1 512 n fits)

byte_below : (n : ℕ) → is_between 0 255 n ≡ true → n < 10 ^ 10
byte_below n fits = omega (arith, most 0 255 n fits)

position_below : (n : ℕ) → is_position n ≡ true → n < 10 ^ 10
position_below n fits = omega (arith, most 1 64 n fits)

start_below : (n : ℕ) → is_start n ≡ true → n < 10 ^ 10
start_below n fits = omega (arith, most 0 240 n fits)

rpdo_below : (n : ℕ) → is_rpdo_or_any n ≡ true → n < 10 ^ 10
rpdo_below n fits = omega (arith, most 0 512 n fits)

-- ---- commands

-- the numbers of a message
abbrev numbers_of : Message → Stated
numbers_of m = record {
  node = m.node;
  tpdo = m.tpdo;
  transmission = m.transmission;
  inhibit = m.inhibit;
  event = m.event;
  cob = m.cob;
}

-- and their words
abbrev number_words : Message → List (List ℕ)
number_words m = decimal m.node ∷ decimal m.tpdo ∷ decimal m.transmission ∷ decimal m.inhibit ∷ decimal m.event
    ∷ identifier_digits m.cob ∷ []

module _ (m : Message) (is : IsMessage m) where
  stated_is : (line : List ℕ) → Has Ends line (number_words m) → stated_numbers line ≡ Ok (numbers_of m)
  unfolding stated_numbers IsMessage
  stated_is line h =
      rw (h.1.1.1.1.1.1, h.0, h.1.0, h.1.1.0, h.1.1.1.0, h.1.1.1.1.0, h.1.1.1.1.1.0) (
      rw (
        decimal_again m.node (id_below m.node is.0),
        decimal_again m.tpdo (tpdo_below m.tpdo is.1),
        decimal_again m.transmission (byte_below m.transmission is.3),
      ) (
      rw (
        decimal_again m.inhibit (short_below 0 m.inhibit is.4),
        decimal_again m.event (short_below 0 m.event is.5),
        identifier_again m.cob (most 0 2047 m.cob is.2),
      ) refl))

  within_is : message_within (numbers_of m) ≡ Ok m
  unfolding message_within IsMessage
  within_is = rw (is.0, is.1, is.2, is.3, is.4, is.5) refl

  message_is : (line name : List ℕ) → Has Ends line (name ∷ number_words m) → is_name name ≡ true
      → message_of line ≡ Ok (edit.Message name m)
  unfolding message_of
  message_is line name h named = rw (h.0, named, stated_is (after line) h.1, within_is) refl

start_is : (line message : List ℕ) (n : ℕ) → Has Ends line (message ∷ decimal n ∷ []) → is_name message ≡ true
    → is_start n ≡ true → start_of line ≡ Ok (edit.Start message n)
unfolding start_of
start_is line message n h named fits =
    rw (h.1.1, h.0, h.1.0, named, decimal_again n (start_below n fits), fits) refl

drop_message_is : (line name : List ℕ) → Has Ends line (name ∷ []) → is_name name ≡ true
    → drop_message_of line ≡ Ok (edit.DropMessage name)
unfolding drop_message_of
drop_message_is line name h named = rw (h.1, h.0, named) refl

module _ (line message : List ℕ) (position : ℕ) (named : is_name message ≡ true)
    (fits : is_position position ≡ true) where
  source_is : (index sub : ℕ) → Has Ends line (message ∷ decimal position ∷ index_digits index ∷ byte_digits sub ∷ [])
      → AreIndices index sub
      → source_of line ≡ Ok (edit.Source message position index sub)
  unfolding source_of
  source_is index sub h are =
      rw (
        h.1.1.1.1,
        h.0,
        h.1.0,
        h.1.1.0,
        h.1.1.1.0,
        named,
        decimal_again position (position_below position fits),
        index_again index (most 0 65535 index are.0),
        sub_again sub (most 0 255 sub are.1),
        fits,
      ) refl

  unsource_is : Has Ends line (message ∷ decimal position ∷ []) → unsource_of line ≡ Ok (edit.Unsource message position)
  unfolding unsource_of
  unsource_is h = rw (h.1.1, h.0, h.1.0, named, decimal_again position (position_below position fits), fits) refl

  sink_is : (node index sub : ℕ)
      → Has Ends line (message ∷ decimal position ∷ decimal node ∷ index_digits index ∷ byte_digits sub ∷ [])
      → is_node_number node ≡ true → AreIndices index sub
      → sink_of line ≡ Ok (edit.Sink message position node index sub)
  unfolding sink_of
  sink_is node index sub h number are =
      rw (h.1.1.1.1.1, h.0, h.1.0, h.1.1.0, h.1.1.1.0, h.1.1.1.1.0, named) (
      rw (
        decimal_again position (position_below position fits),
        decimal_again node (id_below node number),
        index_again index (most 0 65535 index are.0),
        sub_again sub (most 0 255 sub are.1),
        fits,
        number,
      ) refl)

  unsink_is : (node : ℕ) → Has Ends line (message ∷ decimal position ∷ decimal node ∷ []) → is_node_number node ≡ true
      → unsink_of line ≡ Ok (edit.Unsink message position node)
  unfolding unsink_of
  unsink_is node h number =
      rw (
        h.1.1.1,
        h.0,
        h.1.0,
        h.1.1.0,
        named,
        decimal_again position (position_below position fits),
        decimal_again node (id_below node number),
        fits,
        number,
      ) refl

module _ (line message : List ℕ) (node : ℕ) (named : is_name message ≡ true) (number : is_node_number node ≡ true) where
  receive_is : (rpdo event : ℕ) → Has Ends line (message ∷ decimal node ∷ decimal rpdo ∷ decimal event ∷ [])
      → is_rpdo_or_any rpdo ≡ true → is_between 0 65535 event ≡ true
      → receive_of line ≡ Ok (edit.Receive message node rpdo event)
  unfolding receive_of
  receive_is rpdo event h fits small =
      rw (
        h.1.1.1.1,
        h.0,
        h.1.0,
        h.1.1.0,
        h.1.1.1.0,
        named,
        decimal_again node (id_below node number),
        decimal_again rpdo (rpdo_below rpdo fits),
        decimal_again event (short_below 0 event small),
        number,
        fits,
        small,
      ) refl

  unreceive_is : Has Ends line (message ∷ decimal node ∷ []) → unreceive_of line ≡ Ok (edit.Unreceive message node)
  unfolding unreceive_of
  unreceive_is h = rw (h.1.1, h.0, h.1.0, named, decimal_again node (id_below node number), number) refl

-- ---- printed lines

pub read_message : (name : List ℕ) (m : Message) → is_name name ≡ true → IsMessage m
    → IsRead (line_of (edit.Message name m)) (Ok (EditAsked (edit.Message name m)))
unfolding IsMessage line_of words_of command_of link_of
read_message name m named is =
    let times = more (number_word m.inhibit (short_below 0 m.inhibit is.4))
    (more (number_word m.event (short_below 0 m.event is.5))
    (last (identifier_is_word m.cob (most 0 2047 m.cob is.2)))) in
    let sender = more (number_word m.node (id_below m.node is.0))
    (more (number_word m.tpdo (tpdo_below m.tpdo is.1))
    (more (number_word m.transmission (byte_below m.transmission is.3)) times)) in
    let line = more (name_word name named) sender in
    command (codes "message") refl (lit≤ tt) line refl (ap edit_request (message_is m is _ name line.has named))

pub read_start : (message : List ℕ) (n : ℕ) → is_name message ≡ true → is_start n ≡ true
    → IsRead (line_of (edit.Start message n)) (Ok (EditAsked (edit.Start message n)))
unfolding line_of words_of command_of link_of
read_start message n named fits =
    let line = more (name_word message named) (last (number_word n (start_below n fits))) in
    command (codes "start") refl (lit≤ tt) line refl (ap edit_request (start_is _ message n line.has named fits))

pub read_drop_message : (name : List ℕ) → is_name name ≡ true
    → IsRead (line_of (edit.DropMessage name)) (Ok (EditAsked (edit.DropMessage name)))
unfolding line_of words_of command_of link_of
read_drop_message name named =
    let line = last (name_word name named) in
    command (codes "drop-message") refl (lit≤ tt) line refl (ap edit_request (drop_message_is _ name line.has named))

module _ (message : List ℕ) (position : ℕ) where
  pub read_source : (index sub : ℕ) → is_name message ≡ true → is_position position ≡ true → AreIndices index sub
      → IsRead (line_of (edit.Source message position index sub)) (Ok (EditAsked (edit.Source message position index sub)))
  unfolding line_of words_of command_of link_of
  read_source index sub named fits are =
      let entry = more (index_is_word index (most 0 65535 index are.0)) (last (sub_is_word sub (most 0 255 sub are.1)))
      in
      let line = more (name_word message named) (more (number_word position (position_below position fits)) entry) in
      command (codes "source") refl (lit≤ tt) line refl
      (ap edit_request (source_is _ message position named fits index sub line.has are))

  pub read_unsource : is_name message ≡ true → is_position position ≡ true
      → IsRead (line_of (edit.Unsource message position)) (Ok (EditAsked (edit.Unsource message position)))
  unfolding line_of words_of command_of link_of
  read_unsource named fits =
      let line = more (name_word message named) (last (number_word position (position_below position fits))) in
      command (codes "unsource") refl (lit≤ tt) line refl
      (ap edit_request (unsource_is _ message position named fits line.has))

  pub read_sink : (node index sub : ℕ) → is_name message ≡ true → is_position position ≡ true
      → is_node_number node ≡ true → AreIndices index sub
      → IsRead (line_of (edit.Sink message position node index sub))
      (Ok (EditAsked (edit.Sink message position node index sub)))
  unfolding line_of words_of command_of link_of
  read_sink node index sub named fits number are =
      let entry = more (index_is_word index (most 0 65535 index are.0)) (last (sub_is_word sub (most 0 255 sub are.1)))
      in
      let line = more (name_word message named)
      (more (number_word position (position_below position fits))
      (more (number_word node (id_below node number)) entry)) in
      command (codes "sink") refl (lit≤ tt) line refl
      (ap edit_request (sink_is _ message position named fits node index sub line.has number are))

  pub read_unsink : (node : ℕ) → is_name message ≡ true → is_position position ≡ true → is_node_number node ≡ true
      → IsRead (line_of (edit.Unsink message position node)) (Ok (EditAsked (edit.Unsink message position node)))
  unfolding line_of words_of command_of link_of
  read_unsink node named fits number =
      let line = more (name_word message named)
      (more (number_word position (position_below position fits)) (last (number_word node (id_below node number))))
      in
      command (codes "unsink") refl (lit≤ tt) line refl
      (ap edit_request (unsink_is _ message position named fits node line.has number))

module _ (message : List ℕ) (node : ℕ) where
  pub read_receive : (rpdo event : ℕ) → is_name message ≡ true → is_node_number node ≡ true
      → is_rpdo_or_any rpdo ≡ true → is_between 0 65535 event ≡ true
      → IsRead (line_of (edit.Receive message node rpdo event))
      (Ok (EditAsked (edit.Receive message node rpdo event)))
  unfolding line_of words_of command_of link_of
  read_receive rpdo event named number fits small =
      let line = more (name_word message named)
      (more (number_word node (id_below node number))
      (more (number_word rpdo (rpdo_below rpdo fits)) (last (number_word event (short_below 0 event small))))) in
      command (codes "receive") refl (lit≤ tt) line refl
      (ap edit_request (receive_is _ message node named number rpdo event line.has fits small))

  pub read_unreceive : is_name message ≡ true → is_node_number node ≡ true
      → IsRead (line_of (edit.Unreceive message node)) (Ok (EditAsked (edit.Unreceive message node)))
  unfolding line_of words_of command_of link_of
  read_unreceive named number =
      let line = more (name_word message named) (last (number_word node (id_below node number))) in
      command (codes "unreceive") refl (lit≤ tt) line refl
      (ap edit_request (unreceive_is _ message node named number line.has))
