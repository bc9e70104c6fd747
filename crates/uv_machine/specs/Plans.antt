-- A call in flight seen alone: the word of its next step, and what each step leaves in it.
use Rattle.std.specs.Prelude.{ℕ, Bool, false, ◌==◌, ◌&&◌, ◌||◌, ◌+◌, ◌++◌, List, [], ◌∷◌, Option, None, Some, length, replicate, slice_get, unwrap_or, if◌then◌else◌, nat_lt}
use Rattle.std.specs.List.{list_any}
use Rattle.uv_num.specs.declared.errno.Errno.{Errno}
use Rattle.uv_num.specs.declared.ids.Ids.{Ids}
use Rattle.uv_num.specs.declared.ids.Ids.TheVariants.{Empty, One, Two, Three, Four}
use Rattle.uv_num.specs.Ids as ids
use Rattle.uv_num.specs.declared.limits.TheConstants.{NONE}
use Rattle.uv_num.specs.declared.request.Ask.{Ask}
use Rattle.uv_num.specs.declared.request.Request.{Request}
use Rattle.uv_num.specs.declared.request.Role.{Role}
use Rattle.uv_num.specs.declared.request.Role.TheVariants.{Creates, Destroys, Acts}
use Rattle.uv_num.specs.Request.{role_of}
use Rattle.uv_num.specs.Looks.{looks_of}
use Rattle.uv_machine.specs.declared.entry.Word.{Word}
use Rattle.uv_machine.specs.declared.entry.Word.TheVariants.{Reserve, Look, Make, Commit, Act, Lock, Check, Finish, Abort, Free, Exit}
use Rattle.uv_machine.specs.declared.entry.Answer.{Answer}
use Rattle.uv_machine.specs.declared.entry.Answer.TheVariants as answer
use Rattle.uv_machine.specs.declared.call.TheConstants.{PLAN_STEPS}
use Rattle.uv_machine.specs.declared.call.CallChange.{CallChange}
use Rattle.uv_machine.specs.declared.call.CallChange.TheVariants.{MovesOn, Refused, Reserves, Looks, Makes, Notes, Locks, Unlocks, GivesBack, LetsGo}
use Rattle.uv_machine.specs.declared.call.InFlight.{InFlight}

-- the steps of a call that meets no refusal, up to its end; it looks at so many objects
abbrev pub plan_of : Role → ℕ → List Word
plan_of (Creates kind) looks = Reserve ∷ (replicate looks Look ++ Make ∷ Commit ∷ [])
plan_of (Destroys asked) looks = Lock ∷ Check ∷ Finish ∷ []
plan_of (Acts act) looks = replicate looks Look ++ Act ∷ []

abbrev pub plan_for : Request → List Word
plan_for request = plan_of (role_of request) (length (looks_of request))

-- the end of a call, after its plan and after a refusal: the number that is set aside goes back, then what was looked at is
-- freed in the order of the looks, and then the call ends
abbrev pub freeing : Ids → Word
freeing Empty = Exit
freeing (One a) = Free
freeing (Two a b) = Free
freeing (Three a b c) = Free
freeing (Four a b c d) = Free

abbrev pub closing_word : Option ℕ → Ids → Word
closing_word None looked = freeing looked
closing_word (Some number) looked = Abort

abbrev pub closing : InFlight → Word
closing call = closing_word call.reserved call.looked

abbrev pub word_behind : InFlight → Option Errno → Word
word_behind call None = unwrap_or (slice_get (plan_for call.request) call.place) (closing call)
word_behind call (Some e) = closing call

-- the word of the next step
abbrev pub next_word : InFlight → Word
next_word call = word_behind call call.refusal

-- a call that has just entered
abbrev pub entered : ℕ → Request → InFlight
entered f request =
    record { file = f; request = request; place = 0; refusal = None; reserved = None; looked = Empty; locked = None; outcome = answer.Ok }

-- What a call holds.

-- an optional number is this one
abbrev pub is_the_number : ℕ → Option ℕ → Bool
is_the_number n None = false
is_the_number n (Some k) = k == n

-- the call in a place of the table has set this number of the file aside
abbrev pub reserves : ℕ → ℕ → Option InFlight → Bool
reserves f n None = false
reserves f n (Some call) = (call.file == f) && is_the_number n call.reserved

-- the call in a place of the table holds this object exclusively
abbrev pub locks : ℕ → Option InFlight → Bool
locks o None = false
locks o (Some call) = is_the_number o call.locked

-- the call looks at this object
abbrev pub looks_at : ℕ → InFlight → Bool
looks_at o call = list_any (ids.is_number o) (ids.ids_of call.looked)

-- the call in a place of the table holds this object, exclusively or not
abbrev pub holds : ℕ → Option InFlight → Bool
holds o None = false
holds o (Some call) = is_the_number o call.locked || looks_at o call

-- the call in a place of the table is on this file
abbrev pub is_call_on : ℕ → Option InFlight → Bool
is_call_on f None = false
is_call_on f (Some call) = call.file == f

-- the object that a call holds exclusively
abbrev pub own_object : InFlight → ℕ
own_object call = unwrap_or call.locked NONE

-- the object at a place of those that a call looks at
abbrev pub looked_at : ℕ → InFlight → ℕ
looked_at place call = unwrap_or (slice_get (ids.ids_of call.looked) place) NONE

-- the object that an act is about, and the one that a free gives back
abbrev pub acted_on : InFlight → ℕ
acted_on call = looked_at 0 call

-- what a call looks at next
abbrev pub look_ask : InFlight → Option Ask
look_ask call = slice_get (looks_of call.request) (length (ids.ids_of call.looked))

-- the answer of the whole call: its refusal, or else its outcome
abbrev pub answer_behind : InFlight → Option Errno → Answer
answer_behind call None = call.outcome
answer_behind call (Some e) = answer.Refused e

abbrev pub call_answer : InFlight → Answer
call_answer call = answer_behind call call.refusal

-- What a step leaves in its call.

-- a place in a plan is counted up to the most steps of any plan
abbrev pub next_place : ℕ → ℕ
next_place n = if nat_lt n PLAN_STEPS then n + 1 else n

abbrev pub moved_on : InFlight → InFlight
moved_on call = record call { place = next_place call.place }

abbrev pub with_refusal : Errno → InFlight → InFlight
with_refusal e call = record call { refusal = Some e }

abbrev pub with_number : Option ℕ → InFlight → InFlight
with_number number call = record call { place = next_place call.place; reserved = number }

abbrev pub with_look : ℕ → InFlight → InFlight
with_look o call = record call { place = next_place call.place; looked = ids.ids_and call.looked o }

-- the number and the lock are now the object's
abbrev pub with_made : ℕ → Answer → InFlight → InFlight
with_made o outcome call = record call { place = next_place call.place; reserved = None; locked = Some o; outcome = outcome }

abbrev pub with_outcome : Answer → InFlight → InFlight
with_outcome outcome call = record call { place = next_place call.place; outcome = outcome }

abbrev pub with_lock : ℕ → InFlight → InFlight
with_lock o call = record call { place = next_place call.place; locked = Some o }

abbrev pub without_lock : InFlight → InFlight
without_lock call = record call { place = next_place call.place; locked = None }

abbrev pub without_number : InFlight → InFlight
without_number call = record call { reserved = None }

abbrev pub without_look : InFlight → InFlight
without_look call = record call { looked = ids.ids_behind call.looked }

-- what a step makes of its call
abbrev pub call_changed : CallChange → InFlight → InFlight
call_changed MovesOn = moved_on
call_changed (Refused e) = with_refusal e
call_changed (Reserves number) = with_number number
call_changed (Looks o) = with_look o
call_changed (Makes o outcome) = with_made o outcome
call_changed (Notes outcome) = with_outcome outcome
call_changed (Locks o) = with_lock o
call_changed Unlocks = without_lock
call_changed GivesBack = without_number
call_changed LetsGo = without_look
