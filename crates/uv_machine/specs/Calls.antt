-- A client's calls in a history: in order, one item for each Enter and each Open of the client.
use Rattle.std.specs.Prelude.{ℕ, ◌==◌, List, [], ◌∷◌, ◌++◌, Option, None, Some, if◌then◌else◌}
use Rattle.uv_num.specs.declared.errno.Errno.{Errno}
use Rattle.uv_num.specs.declared.request.Request.{Request}
use Rattle.uv_machine.specs.declared.entry.Entry.{Entry}
use Rattle.uv_machine.specs.declared.entry.Entry.TheVariants.{Open, Enter, Step, Unplug, Tear, Kill, Gone, Dissociated, Closed}
use Rattle.uv_machine.specs.declared.entry.Word.{Word}
use Rattle.uv_machine.specs.declared.entry.Word.TheVariants.{Reserve, Look, Make, Commit, Act, Lock, Check, Finish, Abort, Free, Exit}
use Rattle.uv_machine.specs.declared.entry.Answer.{Answer}
use Rattle.uv_machine.specs.declared.entry.Answer.TheVariants as answer
use Rattle.uv_machine.specs.declared.call.InFlight.{InFlight}
use Rattle.uv_machine.specs.Effects.{refusal_in}

-- a call that a client made: an open, or a request with its answer, which is there once the call has ended
pub data Item : Type 0 where
  Opening : ℕ → ℕ → Answer → Item
  Calling : ℕ → Request → Option Answer → Item

-- the answer of an Enter ends the call where it is a refusal
abbrev pub early_answer : Option Errno → Option Answer
early_answer None = None
early_answer (Some e) = Some (answer.Refused e)

-- the call that has no answer yet has this one
abbrev pub answered : Answer → List Item → List Item
answered a [] = []
answered a (Opening f d b ∷ items) = Opening f d b ∷ answered a items
answered a (Calling f request None ∷ items) = Calling f request (Some a) ∷ answered a items
answered a (Calling f request (Some b) ∷ items) = Calling f request (Some b) ∷ answered a items

abbrev pub at_exit : Word → Answer → List Item → List Item
at_exit Reserve a items = items
at_exit Look a items = items
at_exit Make a items = items
at_exit Commit a items = items
at_exit Act a items = items
at_exit Lock a items = items
at_exit Check a items = items
at_exit Finish a items = items
at_exit Abort a items = items
at_exit Free a items = items
at_exit Exit a items = answered a items

-- a client's calls after one more entry
abbrev pub calls_with : ℕ → List Item → Entry → List Item
calls_with c items (Open b f d a) = if b == c then items ++ Opening f d a ∷ [] else items
calls_with c items (Enter b f request a) = if b == c then items ++ Calling f request (early_answer (refusal_in a)) ∷ [] else items
calls_with c items (Step b w o found a) = if b == c then at_exit w a items else items
calls_with c items (Unplug d) = items
calls_with c items (Tear f by) = items
calls_with c items (Kill o) = items
calls_with c items (Gone o kept) = items
calls_with c items (Dissociated f) = items
calls_with c items (Closed f) = items

abbrev pub calls_from : ℕ → List Item → List Entry → List Item
calls_from c items [] = items
calls_from c items (e ∷ es) = calls_from c (calls_with c items e) es

-- a client's calls in a history
abbrev pub calls_of : List Entry → ℕ → List Item
calls_of h c = calls_from c [] h

-- What a client asked for, without the answers.

pub data Asked : Type 0 where
  Opens : ℕ → ℕ → Asked
  Asks : ℕ → Request → Asked

abbrev pub asked_in : Item → Asked
asked_in (Opening f d a) = Opens f d
asked_in (Calling f request a) = Asks f request

-- what the client asks for by an entry
abbrev pub asked_by : ℕ → Entry → List Asked
asked_by c (Open b f d a) = if b == c then Opens f d ∷ [] else []
asked_by c (Enter b f request a) = if b == c then Asks f request ∷ [] else []
asked_by c (Step b w o found a) = []
asked_by c (Unplug d) = []
asked_by c (Tear f by) = []
asked_by c (Kill o) = []
asked_by c (Gone o kept) = []
asked_by c (Dissociated f) = []
asked_by c (Closed f) = []

-- and by a list of them
abbrev pub asked_through : ℕ → List Entry → List Asked
asked_through c [] = []
asked_through c (e ∷ es) = asked_by c e ++ asked_through c es

-- the calls that have no answer yet
abbrev pub unanswered : List Item → List Asked
unanswered [] = []
unanswered (Opening f d a ∷ items) = unanswered items
unanswered (Calling f request None ∷ items) = Asks f request ∷ unanswered items
unanswered (Calling f request (Some a) ∷ items) = unanswered items

-- what a call in flight was asked for
abbrev pub asked_of : Option InFlight → List Asked
asked_of None = []
asked_of (Some call) = Asks call.file call.request ∷ []
