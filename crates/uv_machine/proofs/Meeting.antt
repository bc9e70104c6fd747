-- What a destroy meets, and what it answers for it.
use Rattle.std.proofs.Common.{◌≡◌, ◌≢◌, ℕ, Bool, true, false, List, [], ◌∷◌, Option, Some, None, refl, ap, sym, ◌∙◌, subst, inl, inr, ◌⊎◌, ⊎_elim}
use Rattle.std.specs.Prelude.{not, ◌||◌, ◌==◌, slice_get, if◌then◌else◌}
use Rattle.std.proofs.lemmas.Option.{none-some, same_Some}
use Rattle.std.proofs.lemmas.Bool.Decides.{eqb_tells}
use Rattle.uv_num.specs.declared.errno.Errno.{Errno}
use Rattle.uv_num.specs.declared.errno.Errno.TheVariants.{NoEnt, Busy, Inval}
use Rattle.uv_num.specs.declared.kind.Kind.{Kind}
use Rattle.uv_num.specs.declared.qp.QpState.{QpState}
use Rattle.uv_num.specs.declared.request.Act as request
use Rattle.uv_num.specs.declared.request.Ask.{Ask}
use Rattle.uv_num.specs.declared.request.Request.{Request}
use Rattle.uv_num.specs.declared.request.Role.{Role}
use Rattle.uv_num.specs.declared.request.Role.TheVariants.{Creates, Destroys, Acts}
use Rattle.uv_num.specs.Place.{at_place}
use Rattle.uv_num.specs.Request.{role_of}
use Rattle.uv_num.proofs.PlaceLaws.{slice_get-at_place_same}
use Rattle.uv_num.specs.declared.limits.TheConstants.{ACTOR_PLACES}
use Rattle.uv_machine.specs.declared.entry.Entry.{Entry}
use Rattle.uv_machine.specs.declared.entry.Entry.TheVariants.{Open, Enter, Step, Unplug, Tear, Kill, Gone, Dissociated, Closed}
use Rattle.uv_machine.specs.declared.entry.Word.{Word}
use Rattle.uv_machine.specs.declared.entry.Word.TheVariants.{Reserve, Look, Make, Commit, Act, Lock, Check, Finish, Abort, Free, Exit}
use Rattle.uv_machine.specs.declared.entry.Answer.{Answer}
use Rattle.uv_machine.specs.declared.entry.Answer.TheVariants as answer
use Rattle.uv_machine.specs.declared.object.Object.{Object}
use Rattle.uv_machine.specs.declared.call.InFlight.{InFlight}
use Rattle.uv_machine.specs.declared.state.State.{State}
use Rattle.uv_machine.specs.Objects.{is_kind}
use Rattle.uv_machine.specs.Plans.{next_word, own_object, closing, call_answer, answer_behind, entered, with_refusal, with_number, with_look, with_made, with_outcome, with_lock, without_lock, without_number, without_look, moved_on}
use Rattle.uv_machine.specs.States.{the_call, call_of, published, has_users, has_others, start}
use Rattle.uv_machine.specs.Steps.{told, lock_told, lock_found}
use Rattle.uv_machine.specs.Effects.{refusal_in, made_outcome, put_call, unless_answered}
use Rattle.uv_machine.specs.Histories.{Allowed, after, state_from, state_of, IsLegalFrom, IsLegal}
use Rattle.uv_machine.specs.Destroys.{stands_against, stood_with, stood_from, has_stood}
use Rattle.uv_machine.specs.Laws.{is_of, DestroyAnswers}
use Rattle.uv_machine.proofs.Planned.{InPlan, IsClosing, stands_in_plan, next_word-planned, next_word-closing}
use Rattle.uv_machine.proofs.Turns.{Turn, Refused, Locked, object_made, may_refuse, IsTurn, IsTurn-allowed}
use Rattle.uv_machine.proofs.Turns.Turn.{Refuses, Reserves, Looks, Makes, Commits, Does, Locks, Checks, Finishes, Aborts, Frees, Leaves}
use Rattle.uv_machine.proofs.OwnCall.{calls_turn}
use Rattle.uv_machine.proofs.Apart.{call_of-after}
use Rattle.uv_machine.proofs.Calling.{CallBehind, call_behind}
use Rattle.uv_machine.proofs.Reaching.{start_calls, put_is}

-- what a refusal of a destroy says of what stood against it
abbrev pub MetBy : Option Errno → Bool → Type 0
MetBy None stood = stood ≡ false
MetBy (Some e) stood = (e ≡ NoEnt) ⊎ ((e ≡ Inval) ⊎ ((e ≡ Busy) × (stood ≡ true)))

pub record Met (call : InFlight) (stood : Bool) : Type 0 where
  pub outcome : call.outcome ≡ answer.Ok
  pub by : MetBy call.refusal stood

-- an actor's destroy met what stood against it
abbrev pub Meeting : State → ℕ → Bool → Type 0
Meeting m c stood = (call : InFlight) (asked : Ask) → call_of m c ≡ Some call → role_of call.request ≡ Destroys asked → Met call stood

-- The words of a destroy.

creates_apart : (role : Role) (kind : Kind) (asked : Ask) → role ≡ Creates kind → role ≡ Destroys asked → ⊥
creates_apart role kind asked e e' = let same : Creates kind ≡ Destroys asked = sym e ∙ e' in cc

acts_apart : (role : Role) (what : request.Act) (asked : Ask) → role ≡ Acts what → role ≡ Destroys asked → ⊥
acts_apart role what asked e e' = let same : Acts what ≡ Destroys asked = sym e ∙ e' in cc

-- What a Lock and a Check meet.

has_met : (stood against : Bool) → against ≡ true → (stood || against) ≡ true
has_met true against e = refl
has_met false against e = e

not_met : (stood against : Bool) → stood ≡ false → against ≡ false → (stood || against) ≡ false
not_met true against e e' = absurd cc
not_met false against e e' = e'

module _ (m : State) (c : ℕ) (stood : Bool) where
  lock_try_met : (kept others : Bool) (e : Errno) → (if not kept then Some Inval else (if others then Some Busy else None)) ≡ Some e → MetBy (Some e) (stood || others)
  lock_try_met false others e is = inr (inl (sym (same_Some Inval e is)))
  lock_try_met true true e is = inr (inr (sym (same_Some Busy e is), has_met stood true refl))
  lock_try_met true false e is = absurd (none-some e is)

  lock_found_met : (asked : Ask) (x : Option Object) (o : ℕ) (e : Errno) → (lock_found m c asked x).refusal ≡ Some e → (lock_found m c asked x).object ≡ o → MetBy (Some e) (stood || has_others m c o)
  lock_found_met asked None o e is object = inl (sym (same_Some NoEnt e is))
  lock_found_met asked (Some x) o e is object =
      let P : ℕ → Type 0 = λ i. MetBy (Some e) (stood || has_others m c i) in
      subst P object (lock_try_met (is_kind x.kind asked.kind) (has_others m c x.id) e is)

  lock_try_free : (kept others : Bool) → (if not kept then Some Inval else (if others then Some Busy else None)) ≡ None → others ≡ false
  lock_try_free false others is = absurd (none-some _ (sym is))
  lock_try_free true true is = absurd (none-some _ (sym is))
  lock_try_free true false is = refl

  check_met : (used : Bool) (e : Errno) → (if used then Some Busy else None) ≡ Some e → MetBy (Some e) (stood || used)
  check_met true e is = inr (inr (sym (same_Some Busy e is), has_met stood true refl))
  check_met false e is = absurd (none-some e is)

  -- a refusal of a destroy
  refused_met : (call : InFlight) (asked : Ask) (w : Word) (o : ℕ) (found had : Option QpState) (e : Errno) → role_of call.request ≡ Destroys asked → InPlan call w → may_refuse w ≡ true → (told m c call had w).refusal ≡ Some e → (told m c call found w).object ≡ o → MetBy (Some e) (stood || stands_against m c o w)
  refused_met call asked Reserve o found had e role plan may is object = let s = stands_in_plan call Reserve plan in absurd (creates_apart (role_of call.request) s.kind asked s.creates role)
  refused_met call asked Look o found had e role plan may is object =
      absurd (⊎_elim (λ s. creates_apart (role_of call.request) s.kind asked s.creates role) (λ s. acts_apart (role_of call.request) s.act asked s.acts role) (stands_in_plan call Look plan))
  refused_met call asked Make o found had e role plan may is object = let s = stands_in_plan call Make plan in absurd (creates_apart (role_of call.request) s.kind asked s.creates role)
  refused_met call asked Commit o found had e role plan may is object = absurd cc
  refused_met call asked Act o found had e role plan may is object = let s = stands_in_plan call Act plan in absurd (acts_apart (role_of call.request) s.act asked s.acts role)
  refused_met call asked Lock o found had e role plan may is object =
      lock_found_met asked (published m call.file asked.handle) o e (ap (λ v. (lock_told m c call.file v).refusal) (sym role) ∙ is) (ap (λ v. (lock_told m c call.file v).object) (sym role) ∙ object)
  refused_met call asked Check o found had e role plan may is object =
      let P : ℕ → Type 0 = λ i. MetBy (Some e) (stood || has_users m i) in
      subst P object (check_met (has_users m (own_object call)) e is)
  refused_met call asked Finish o found had e role plan may is object = absurd cc
  refused_met call asked Abort o found had e role plan may is object = absurd cc
  refused_met call asked Free o found had e role plan may is object = absurd cc
  refused_met call asked Exit o found had e role plan may is object = absurd cc

-- A step of the destroy itself.

or_none : (b : Bool) → (b || false) ≡ b
or_none true = refl
or_none false = refl

met_with : (call : InFlight) (stood stood' : Bool) → stood ≡ stood' → Met call stood → Met call stood'
met_with call stood stood' e met = let P : Bool → Type 0 = λ b. Met call b in subst P e met

met_as : (k k' : InFlight) (stood : Bool) → Some k' ≡ Some k → Met k' stood → Met k stood
met_as k k' stood e met = let P : InFlight → Type 0 = λ v. Met v stood in subst P (same_Some k' k e) met

-- the request of the call that a step leaves is the one before
role_behind : (k k' : InFlight) (asked : Ask) → Some k' ≡ Some k → role_of k.request ≡ Destroys asked → role_of k'.request ≡ Destroys asked
role_behind k k' asked e role = ap (λ (v : InFlight). role_of v.request) (same_Some k' k e) ∙ role

module _ (m : State) (c : ℕ) (call : InFlight) (stood : Bool) (meeting : (asked : Ask) → role_of call.request ≡ Destroys asked → Met call stood) where
  word_is : (v w : Word) → next_word call ≡ w → InPlan call v → v ≡ w
  word_is v w word plan = sym (next_word-planned call v plan.fine plan.planned) ∙ word

  -- what stood before, where the step is of the plan
  none_stood : (met : Met call stood) → call.refusal ≡ None → stood ≡ false
  none_stood met fine = let P : Option Errno → Type 0 = λ r. MetBy r stood in subst P fine met.by

  met_refused : (asked : Ask) (w : Word) (o : ℕ) (found : Option QpState) (a : Answer) (m' : State) → role_of call.request ≡ Destroys asked → next_word call ≡ w → (told m c call found w).object ≡ o → (t : Refused m c call a m') → Met (with_refusal t.errno call) (stood || stands_against m c o w)
  met_refused asked w o found a m' role word object t =
      let same = word_is t.word w word t.plan in
      let P : Word → Type 0 = λ v. InPlan call v in
      record {
        outcome = (meeting asked role).outcome;
        by = refused_met m c stood call asked w o found t.found t.errno role (subst P same t.plan) (ap may_refuse (sym same) ∙ t.may) (ap (λ v. (told m c call t.found v).refusal) (sym same) ∙ t.meets) object;
      }

  lock_told_object : (asked : Ask) (x : Object) (o : ℕ) (found : Option QpState) (w : Word) → role_of call.request ≡ Destroys asked → published m call.file asked.handle ≡ Some x → Lock ≡ w → (told m c call found w).object ≡ o → x.id ≡ o
  lock_told_object asked x o found w role is word object =
      sym (ap (λ v. (lock_found m c asked v).object) is)
      ∙ sym (ap (λ v. (lock_told m c call.file v).object) role)
      ∙ ap (λ v. (told m c call found v).object) word
      ∙ object

  met_locked : (asked : Ask) (w : Word) (o : ℕ) (found : Option QpState) (m' : State) → role_of call.request ≡ Destroys asked → next_word call ≡ w → (told m c call found w).object ≡ o → (t : Locked m c call m') → Met (with_lock t.item.id call) (stood || stands_against m c o w)
  met_locked asked w o found m' role word object t =
      let met = meeting asked role in
      let same = word_is Lock w word t.plan in
      let x = t.item in
      let free : has_others m c x.id ≡ false = lock_try_free m c stood (is_kind x.kind t.asked.kind) (has_others m c x.id) t.fine in
      let id : x.id ≡ o = lock_told_object t.asked x o found w t.destroys t.published same object in
      let against : stands_against m c o w ≡ false = ap (stands_against m c o) (sym same) ∙ ap (has_others m c) (sym id) ∙ free in
      record {
        outcome = met.outcome;
        by = (let P : Option Errno → Type 0 = λ r. MetBy r (stood || stands_against m c o w) in subst P (sym t.plan.fine) (not_met stood (stands_against m c o w) (none_stood met t.plan.fine) against));
      }

  against_none : (v w : Word) (o : ℕ) → v ≡ w → stands_against m c o v ≡ false → (stood || stands_against m c o w) ≡ stood
  against_none v w o e none = ap (λ b. stood || b) (ap (stands_against m c o) (sym e) ∙ none) ∙ or_none stood

  -- a step that nothing stands against
  met_plain : (k : InFlight) (v w : Word) (o : ℕ) → Met k stood → v ≡ w → stands_against m c o v ≡ false → Met k (stood || stands_against m c o w)
  met_plain k v w o met e none = met_with k stood (stood || stands_against m c o w) (sym (against_none v w o e none)) met

  closing_is : (v w : Word) → next_word call ≡ w → IsClosing call → closing call ≡ v → v ≡ w
  closing_is v w word ends is = sym is ∙ sym (next_word-closing call ends) ∙ word

  met_turn : (a : Answer) (m' : State) (w : Word) (o : ℕ) (found : Option QpState) → next_word call ≡ w → (told m c call found w).object ≡ o → (t : Turn m c call a m') → (k : InFlight) → (calls_turn m c call a m' t).change (Some call) ≡ Some k → (asked : Ask) → role_of k.request ≡ Destroys asked → Met k (stood || stands_against m c o w)
  met_turn a m' w o found word object (Refuses t) k e asked role =
      met_as k (with_refusal t.errno call) _ e (met_refused asked w o found a m' (role_behind k (with_refusal t.errno call) asked e role) word object t)
  met_turn a m' w o found word object (Reserves t) k e asked role =
      let s = stands_in_plan call Reserve t.plan in
      absurd (creates_apart (role_of call.request) s.kind asked s.creates (role_behind k (with_number (Some t.number) call) asked e role))
  met_turn a m' w o found word object (Looks t) k e asked role =
      let own = role_behind k (with_look _ call) asked e role in
      absurd (⊎_elim (λ s. creates_apart (role_of call.request) s.kind asked s.creates own) (λ s. acts_apart (role_of call.request) s.act asked s.acts own) (stands_in_plan call Look t.plan))
  met_turn a m' w o found word object (Makes t) k e asked role =
      let x = object_made m call t.kind t.index in
      absurd (creates_apart (role_of call.request) t.kind asked t.creates (role_behind k (with_made x.id (made_outcome x) call) asked e role))
  met_turn a m' w o found word object (Commits t) k e asked role =
      let s = stands_in_plan call Commit t.plan in
      absurd (creates_apart (role_of call.request) s.kind asked s.creates (role_behind k (without_lock call) asked e role))
  met_turn a m' w o found word object (Does t) k e asked role =
      absurd (acts_apart (role_of call.request) t.what asked t.acts (role_behind k (with_outcome a call) asked e role))
  met_turn a m' w o found word object (Locks t) k e asked role =
      met_as k (with_lock t.item.id call) _ e (met_locked asked w o found m' (role_behind k (with_lock t.item.id call) asked e role) word object t)
  met_turn a m' w o found word object (Checks t) k e asked role =
      let met = meeting asked (role_behind k (moved_on call) asked e role) in
      let same = word_is Check w word t.plan in
      let own : own_object call ≡ o = ap (λ v. (told m c call found v).object) same ∙ object in
      met_as k (moved_on call) _ e
      (met_plain (moved_on call) Check w o (record { outcome = met.outcome; by = met.by }) same (ap (has_users m) (sym own) ∙ t.unused))
  met_turn a m' w o found word object (Finishes t) k e asked role =
      let met = meeting asked (role_behind k (without_lock call) asked e role) in
      met_as k (without_lock call) _ e (met_plain (without_lock call) Finish w o (record { outcome = met.outcome; by = met.by }) (word_is Finish w word t.plan) refl)
  met_turn a m' w o found word object (Aborts t) k e asked role =
      let met = meeting asked (role_behind k (without_number call) asked e role) in
      met_as k (without_number call) _ e (met_plain (without_number call) Abort w o (record { outcome = met.outcome; by = met.by }) (closing_is Abort w word t.ends t.word) refl)
  met_turn a m' w o found word object (Frees t) k e asked role =
      let met = meeting asked (role_behind k (without_look call) asked e role) in
      met_as k (without_look call) _ e (met_plain (without_look call) Free w o (record { outcome = met.outcome; by = met.by }) (closing_is Free w word t.ends t.word) refl)
  met_turn a m' w o found word object (Leaves t) k e asked role = absurd (none-some k e)

-- Every entry.

meeting_same : (m m' : State) (c : ℕ) (stood stood' : Bool) → call_of m' c ≡ call_of m c → stood' ≡ stood → Meeting m c stood → Meeting m' c stood'
meeting_same m m' c stood stood' calls e meeting call asked is role = met_with call stood stood' (sym e) (meeting call asked (sym calls ∙ is) role)

-- an entry of another actor, or of none
stood_other : (m : State) (c : ℕ) (stood : Bool) (e : Entry) → is_of c e ≡ false → stood_with m c stood e ≡ stood
stood_other m c stood (Open b f d a) other = refl
stood_other m c stood (Enter b f request a) other = rw other
stood_other m c stood (Step b w o found a) other = rw other
stood_other m c stood (Unplug d) other = refl
stood_other m c stood (Tear f by) other = refl
stood_other m c stood (Kill o) other = refl
stood_other m c stood (Gone o kept) other = refl
stood_other m c stood (Dissociated f) other = refl
stood_other m c stood (Closed f) other = refl

stood_entered : (m : State) (c b f : ℕ) (request : Request) (a : Answer) (stood : Bool) → (b == c) ≡ true → stood_with m c stood (Enter b f request a) ≡ false
stood_entered m c b f request a stood e = rw e

stood_stepped : (m : State) (c b : ℕ) (w : Word) (o : ℕ) (found : Option QpState) (a : Answer) (stood : Bool) → (b == c) ≡ true → stood_with m c stood (Step b w o found a) ≡ (stood || stands_against m c o w)
stood_stepped m c b w o found a stood e = rw e

-- a call that has just entered has met nothing
met_entered : (f : ℕ) (request : Request) → Met (entered f request) false
met_entered f request = record { outcome = refl; by = refl }

put_met : (m : State) (c f : ℕ) (request : Request) (e : Option Errno) → call_of m c ≡ None → Meeting (unless_answered m e (record m { calls = at_place m.calls c (put_call (entered f request)) })) c false
put_met m c f request None idle call asked is role =
    let P : InFlight → Type 0 = λ v. Met v false in
    subst P (put_is (entered f request) call (slice_get m.calls c) (sym (ap the_call (slice_get-at_place_same m.calls c (put_call (entered f request)))) ∙ is)) (met_entered f request)
put_met m c f request (Some e) idle call asked is role = absurd (none-some call (sym idle ∙ is))

meeting_entered : (m : State) (c b f : ℕ) (request : Request) (a : Answer) (stood : Bool) → b ≡ c → (b == c) ≡ true → Allowed m (Enter b f request a) → Meeting (after m (Enter b f request a)) c (stood_with m c stood (Enter b f request a))
meeting_entered m c b f request a stood same test allowed =
    let P : Bool → Type 0 = λ v. Meeting (after m (Enter b f request a)) c v in
    let Q : ℕ → Type 0 = λ i. Meeting (after m (Enter b f request a)) i false in
    subst P (sym (stood_entered m c b f request a stood test)) (subst Q same (put_met m b f request (refusal_in a) allowed.2))

module _ (m : State) (c : ℕ) (stood : Bool) (meeting : Meeting m c stood) (w : Word) (o : ℕ) (found : Option QpState) (a : Answer) (m' : State) (t : IsTurn m c w o found a m') where
  behind_met : (k : InFlight) (asked : Ask) → CallBehind m c c ((calls_turn m c t.call a m' t.turn).change (Some t.call)) k → role_of k.request ≡ Destroys asked → Met k (stood || stands_against m c o w)
  behind_met k asked (CallBehind.IsOwn same e) role =
      met_turn m c t.call stood (λ asked' role'. meeting t.call asked' t.is role') a m' w o found t.word t.object t.turn k e asked role
  behind_met k asked (CallBehind.IsOther ne e) role = absurd (ne refl)

  meeting_turn : Meeting m' c (stood || stands_against m c o w)
  meeting_turn k asked is role =
      let kt = calls_turn m c t.call a m' t.turn in
      behind_met k asked (call_behind m m' c t.call kt.change t.is kt.calls c k is) role

meeting_stepped : (m : State) (c b : ℕ) (stood : Bool) (w : Word) (o : ℕ) (found : Option QpState) (a : Answer) → b ≡ c → (b == c) ≡ true → Allowed m (Step b w o found a) → Meeting m c stood → Meeting (after m (Step b w o found a)) c (stood_with m c stood (Step b w o found a))
meeting_stepped m c b stood w o found a same test allowed meeting =
    let m' = after m (Step b w o found a) in
    let P : Bool → Type 0 = λ v. Meeting m' c v in
    let Q : ℕ → Type 0 = λ i. IsTurn m i w o found a m' in
    subst P (sym (stood_stepped m c b w o found a stood test)) (meeting_turn m c stood meeting w o found a m' (subst Q same (IsTurn-allowed m b w o found a allowed)))

meeting_other : (m : State) (e : Entry) (c : ℕ) (stood : Bool) → is_of c e ≡ false → Meeting m c stood → Meeting (after m e) c (stood_with m c stood e)
meeting_other m e c stood other meeting = meeting_same m (after m e) c stood (stood_with m c stood e) (call_of-after m e c other) (stood_other m c stood e other) meeting

meeting_after : (m : State) (e : Entry) (c : ℕ) (stood : Bool) → Allowed m e → Meeting m c stood → Meeting (after m e) c (stood_with m c stood e)
meeting_after m (Open b f d a) c stood allowed meeting = meeting_other m (Open b f d a) c stood refl meeting
meeting_after m (Enter b f request a) c stood allowed meeting =
    ⊎_elim
    (λ same. meeting_entered m c b f request a stood same.1 same.0 allowed)
    (λ other. meeting_other m (Enter b f request a) c stood other.0 meeting)
    (eqb_tells b c)
meeting_after m (Step b w o found a) c stood allowed meeting =
    ⊎_elim
    (λ same. meeting_stepped m c b stood w o found a same.1 same.0 allowed meeting)
    (λ other. meeting_other m (Step b w o found a) c stood other.0 meeting)
    (eqb_tells b c)
meeting_after m (Unplug d) c stood allowed meeting = meeting_other m (Unplug d) c stood refl meeting
meeting_after m (Tear f by) c stood allowed meeting = meeting_other m (Tear f by) c stood refl meeting
meeting_after m (Kill o) c stood allowed meeting = meeting_other m (Kill o) c stood refl meeting
meeting_after m (Gone o kept) c stood allowed meeting = meeting_other m (Gone o kept) c stood refl meeting
meeting_after m (Dissociated f) c stood allowed meeting = meeting_other m (Dissociated f) c stood refl meeting
meeting_after m (Closed f) c stood allowed meeting = meeting_other m (Closed f) c stood refl meeting

meeting_from : (m : State) (h : List Entry) (c : ℕ) (stood : Bool) → IsLegalFrom m h → Meeting m c stood → Meeting (state_from m h) c (stood_from m c stood h)
meeting_from m [] c stood legal meeting = meeting
meeting_from m (e ∷ h) c stood legal meeting = meeting_from (after m e) h c (stood_with m c stood e) legal.1 (meeting_after m e c stood legal.0 meeting)

meeting_start : (c : ℕ) → Meeting start c false
unfolding start
meeting_start c call asked is role = absurd (start_calls c ACTOR_PLACES call is)

meeting_of : (h : List Entry) (c : ℕ) → IsLegal h → Meeting (state_of h) c (has_stood h c)
meeting_of h c legal = meeting_from start h c false legal (meeting_start c)

-- What the exit tells.

tells_by : (refusal : Option Errno) (stood : Bool) (call : InFlight) (a : Answer) → call.outcome ≡ answer.Ok → MetBy refusal stood → answer_behind call refusal ≡ a → a ≢ answer.Refused NoEnt → a ≢ answer.Refused Inval → a ≡ (if stood then answer.Refused Busy else answer.Ok)
tells_by None stood call a outcome by is no_ent inval = sym is ∙ outcome ∙ sym (ap (λ b. if b then answer.Refused Busy else answer.Ok) by)
tells_by (Some e) stood call a outcome by is no_ent inval =
    ⊎_elim
    (λ same. absurd (no_ent (sym is ∙ ap (λ v. answer.Refused v) same)))
    (λ rest.
    ⊎_elim
    (λ same. absurd (inval (sym is ∙ ap (λ v. answer.Refused v) same)))
    (λ busy. sym is ∙ ap (λ v. answer.Refused v) busy.0 ∙ sym (ap (λ b. if b then answer.Refused Busy else answer.Ok) busy.1))
    rest)
    by

-- a destroy answers by what it met
pub destroy_answers : DestroyAnswers
destroy_answers h c o found a call asked legal is role allowed no_ent inval =
    let m = state_of h in
    let t = IsTurn-allowed m c Exit o found a allowed in
    let met = meeting_of h c legal call asked is role in
    let told_it : call_answer t.call ≡ a = t.answer in
    let same : t.call ≡ call = same_Some t.call call (sym t.is ∙ is) in
    tells_by call.refusal (has_stood h c) call a met.outcome met.by (sym (ap call_answer same) ∙ told_it) no_ent inval
