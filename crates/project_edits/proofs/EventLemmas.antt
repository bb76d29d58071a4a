-- The line of an event, written word for word.
use Rattle.std.proofs.Common.{◌≡◌, ℕ, List, [], ◌∷◌, ◌++◌, codes, decimal, append_assoc, ap, sym, refl, ◌∙◌}
use Rattle.co_scenario.specs.declared.event.Event.{Event}
use Rattle.co_scenario.specs.declared.event.Event.TheVariants as event
use Rattle.co_scenario.specs.declared.timed_event.TimedEvent.{TimedEvent}
use Rattle.project_edits.specs.declared.edit.Edit.TheVariants as edit
use Rattle.project_edits.specs.Lines.{event_words, line_of, line_of_words, text_of, words_of}

-- what happens to a node has a first word
event_last : (word : List ℕ) (e : Event) → line_of_words (word ∷ event_words e) ≡ word ++ 32 ∷ line_of_words (event_words e)
unfolding event_words
event_last word (event.Set node index sub text) = refl
event_last word (event.Power node on) = refl
event_last word (event.Nmt node command) = refl

-- a byte before two texts
byte_before : (byte : ℕ) (a b : List ℕ) → (byte ∷ a) ++ b ≡ byte ∷ (a ++ b)
byte_before byte a b = refl

-- four words of a line and its end, one after the other
words_in_turn : (out a b c d : List ℕ) → out ++ a ++ 32 ∷ b ++ 32 ∷ c ++ 32 ∷ d ++ 10 ∷ []
    ≡ out ++ (a ++ 32 ∷ (b ++ 32 ∷ (c ++ 32 ∷ d)) ++ 10 ∷ [])
words_in_turn out a b c d = simp (append_assoc, byte_before) refl

-- an event at its time, what happens then, and the end of the line
pub event_written : (number : ℕ) (e : TimedEvent) (out moment words line : List ℕ)
    → moment ≡ out ++ codes "event" ++ 32 ∷ decimal number ++ 32 ∷ decimal e.time
    → words ≡ moment ++ 32 ∷ line_of_words (event_words e.event)
    → line ≡ words ++ 10 ∷ [] → line ≡ out ++ text_of (edit.Event number e)
unfolding line_of text_of words_of
event_written number e out moment words line begun said ended =
    rw (ended, said, begun) (words_in_turn out (codes "event") (decimal number) (decimal e.time)
    (line_of_words (event_words e.event)))
    ∙ ap (λ words. out ++ (codes "event" ++ 32 ∷ (decimal number ++ 32 ∷ words) ++ 10 ∷ []))
    (sym (event_last (decimal e.time) e.event))
