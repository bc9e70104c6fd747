-- What is kept beside an object, as a function of the state: the lock word and the count of users. And what becomes of it.
use Rattle.std.specs.Prelude.{ℕ, ℤ, pos, negsuc, Bool, true, false, not, ◌+◌, ◌-◌, ◌==◌, nat_lt, List, [], ◌∷◌, ◌++◌, Option, None, Some, length, map, option_map, sum_by, count_by, if◌then◌else◌}
use Rattle.std.specs.List.{list_any}
use Rattle.uv_num.specs.declared.limits.TheConstants.{MOST_OBJECTS}
use Rattle.uv_num.specs.Ids.{ids_of, is_number}
use Rattle.uv_num.specs.Place.{changed}
use Rattle.uv_machine.specs.declared.call.InFlight.{InFlight}
use Rattle.uv_machine.specs.declared.object.Object.{Object}
use Rattle.uv_machine.specs.declared.state.State.{State}
use Rattle.uv_machine.specs.Plans.{locks}
use Rattle.uv_machine.specs.States.{object_with}
use Rattle.uv_store.specs.declared.mark.Mark.{Mark}
use Rattle.uv_store.specs.declared.mark.MarkChange.{MarkChange}
use Rattle.uv_store.specs.declared.mark.MarkChange.TheVariants.{Reads, Frees, Locks, Unlocks, GainsUser, LosesUser}

-- The word.

-- how often the call in a place of the table looks at an object
abbrev pub looks_by : ℕ → Option InFlight → ℕ
looks_by o None = 0
looks_by o (Some call) = count_by (is_number o) (ids_of call.looked)

-- how often calls look at an object
abbrev pub reads_on : List (Option InFlight) → ℕ → ℕ
reads_on calls o = sum_by (looks_by o) calls

-- one call holds the object alone, or so many looks do
abbrev pub word_for : Bool → ℕ → ℤ
word_for excluded reads = if excluded then negsuc 0 else pos reads

-- the word of an object: what stands for all that calls hold of it
abbrev pub word_on : List (Option InFlight) → ℕ → ℤ
word_on calls o = word_for (list_any (locks o) calls) (reads_on calls o)

-- the word counts a hold beside those of the call in this place of the table
abbrev pub is_beside : ℤ → Option InFlight → ℕ → Bool
is_beside (pos n) slot o = nat_lt (looks_by o slot) n
is_beside (negsuc n) slot o = not (locks o slot)

-- The users.

-- how often an object uses that one
abbrev pub uses_by : ℕ → Object → ℕ
uses_by o x = count_by (is_number o) (ids_of x.uses)

-- how often objects use that one
abbrev pub users_on : List Object → ℕ → ℕ
users_on objects o = sum_by (uses_by o) objects

-- The marks.

-- what is kept beside the object with an id
abbrev pub mark_on : State → ℕ → Mark
mark_on m o = record { word = word_on m.calls o; users = users_on m.objects o }

-- the marks of objects, each by its id
abbrev pub marks_by : (ℕ → Mark) → List Object → List Mark
marks_by g objects = map (λ x. g x.id) objects

-- the mark of the object with an id, where there is one
abbrev pub stood_mark : State → ℕ → Option Mark
stood_mark m o = option_map (λ x. mark_on m o) (object_with m o)

-- What a mark says.

abbrev pub beside_in : Option Mark → Option InFlight → ℕ → Bool
beside_in None slot o = false
beside_in (Some k) slot o = is_beside k.word slot o

abbrev pub is_alone_word : ℤ → Bool
is_alone_word (pos n) = false
is_alone_word (negsuc n) = true

abbrev pub alone_in : Option Mark → Bool
alone_in None = false
alone_in (Some k) = is_alone_word k.word

abbrev pub used_in : Option Mark → Bool
used_in None = false
used_in (Some k) = nat_lt 0 k.users

-- What becomes of a mark.

abbrev pub word_read : ℤ → ℤ
word_read (pos n) = if nat_lt n 64 then pos (n + 1) else pos n
word_read (negsuc n) = negsuc n

abbrev pub word_freed : ℤ → ℤ
word_freed (pos n) = pos (n - 1)
word_freed (negsuc n) = negsuc n

abbrev pub word_locked : ℤ → ℤ
word_locked (pos n) = if n == 0 then negsuc 0 else pos n
word_locked (negsuc n) = negsuc n

abbrev pub word_unlocked : ℤ → ℤ
word_unlocked (pos n) = pos n
word_unlocked (negsuc n) = if n == 0 then pos 0 else negsuc n

abbrev pub more_users : ℕ → ℕ
more_users n = if nat_lt n 65536 then n + 1 else n

abbrev pub fewer_users : ℕ → ℕ
fewer_users n = n - 1

abbrev pub mark_changed : MarkChange → Mark → Mark
mark_changed Reads k = record k { word = word_read k.word }
mark_changed Frees k = record k { word = word_freed k.word }
mark_changed Locks k = record k { word = word_locked k.word }
mark_changed Unlocks k = record k { word = word_unlocked k.word }
mark_changed GainsUser k = record k { users = more_users k.users }
mark_changed LosesUser k = record k { users = fewer_users k.users }

-- the marks with that of one object changed
abbrev pub marks_at_one : MarkChange → ℕ → (ℕ → Mark) → ℕ → Mark
marks_at_one change o g = changed g o (mark_changed change (g o))

-- the marks with those of some objects changed, one after another
abbrev pub marks_at : MarkChange → List ℕ → (ℕ → Mark) → ℕ → Mark
marks_at change [] g = g
marks_at change (o ∷ os) g = marks_at change os (marks_at_one change o g)

-- the marks with one more, if there is room for it
abbrev pub with_mark : Mark → List Mark → List Mark
with_mark k marks = if nat_lt (length marks) MOST_OBJECTS then marks ++ k ∷ [] else marks
