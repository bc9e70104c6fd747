-- A client's calls through a history.
use Rattle.std.proofs.Common.{◌≡◌, ◌≢◌, ℕ, zero, suc, ◌<◌, Bool, true, false, List, [], ◌∷◌, ◌++◌, Option, Some, None, length, map, refl, ap, sym, ◌∙◌, subst, arith, inl, inr, ◌⊎◌, ⊎_elim}
use Rattle.std.specs.Prelude.{◌==◌, slice_get, option_map, if◌then◌else◌}
use Rattle.std.proofs.lemmas.Option.{none-some}
use Rattle.std.proofs.lemmas.List.{append_assoc, append-nil, map-append}
use Rattle.std.proofs.lemmas.Bool.Decides.{eqb_tells}
use Rattle.uv_num.specs.declared.errno.Errno.{Errno}
use Rattle.uv_num.specs.declared.qp.QpState.{QpState}
use Rattle.uv_num.specs.declared.request.Request.{Request}
use Rattle.uv_num.specs.Place.{at_place}
use Rattle.uv_num.proofs.PlaceLaws.{slice_get-at_place_same}
use Rattle.uv_num.specs.declared.limits.TheConstants.{ACTOR_PLACES}
use Rattle.uv_machine.specs.declared.entry.Entry.{Entry}
use Rattle.uv_machine.specs.declared.entry.Entry.TheVariants.{Open, Enter, Step, Unplug, Tear, Kill, Gone, Dissociated, Closed}
use Rattle.uv_machine.specs.declared.entry.Word.{Word}
use Rattle.uv_machine.specs.declared.entry.Word.TheVariants.{Reserve, Look, Make, Commit, Act, Lock, Check, Finish, Abort, Free, Exit}
use Rattle.uv_machine.specs.declared.entry.Answer.{Answer}
use Rattle.uv_machine.specs.declared.call.InFlight.{InFlight}
use Rattle.uv_machine.specs.declared.state.State.{State}
use Rattle.uv_machine.specs.Plans.{next_word, closing, entered}
use Rattle.uv_machine.specs.States.{the_call, call_of, start}
use Rattle.uv_machine.specs.Effects.{refusal_in, put_call, unless_answered}
use Rattle.uv_machine.specs.Histories.{Allowed, IsActor, after, state_from, IsLegalFrom}
use Rattle.uv_machine.specs.Calls.{Item, early_answer, answered, at_exit, calls_with, calls_from, Asked, asked_in, asked_by, asked_through, unanswered, asked_of}
use Rattle.uv_machine.specs.Calls.Item.{Opening, Calling}
use Rattle.uv_machine.specs.Calls.Asked.{Opens, Asks}
use Rattle.uv_machine.specs.Laws.{CallsGoOn, CallsInOrder, CallsInFlight, is_of}
use Rattle.uv_machine.specs.Reached.{Reached}
use Rattle.uv_machine.proofs.Planned.{InPlan, IsClosing, next_word-planned, next_word-closing}
use Rattle.uv_machine.proofs.Turns.{may_refuse, IsTurn, IsTurn-allowed}
use Rattle.uv_machine.proofs.OwnCall.{OwnTurn, calls_turn, call_of-changed}
use Rattle.uv_machine.proofs.Apart.{call_of-after}
use Rattle.uv_machine.proofs.Reaching.{Reached-start, Reached-after, start_calls}

-- The history goes on.

calls_from-append : (c : ℕ) (items : List Item) (h : List Entry) (e : Entry) → calls_from c items (h ++ e ∷ []) ≡ calls_with c (calls_from c items h) e
calls_from-append c items [] e = refl
calls_from-append c items (x ∷ h) e = calls_from-append c (calls_with c items x) h e

pub calls_go_on : CallsGoOn
calls_go_on h e c = calls_from-append c [] h e

-- What was asked for.

answered_keeps : (a : Answer) (items : List Item) → map asked_in (answered a items) ≡ map asked_in items
answered_keeps a [] = refl
answered_keeps a (Opening f d b ∷ items) = ap (λ v. Opens f d ∷ v) (answered_keeps a items)
answered_keeps a (Calling f request None ∷ items) = ap (λ v. Asks f request ∷ v) (answered_keeps a items)
answered_keeps a (Calling f request (Some b) ∷ items) = ap (λ v. Asks f request ∷ v) (answered_keeps a items)

exit_keeps : (w : Word) (a : Answer) (items : List Item) → map asked_in (at_exit w a items) ≡ map asked_in items
exit_keeps Reserve a items = refl
exit_keeps Look a items = refl
exit_keeps Make a items = refl
exit_keeps Commit a items = refl
exit_keeps Act a items = refl
exit_keeps Lock a items = refl
exit_keeps Check a items = refl
exit_keeps Finish a items = refl
exit_keeps Abort a items = refl
exit_keeps Free a items = refl
exit_keeps Exit a items = answered_keeps a items

pushed_asks : (b : Bool) (items : List Item) (item : Item) (asked : Asked) → asked_in item ≡ asked → map asked_in (if b then items ++ item ∷ [] else items) ≡ map asked_in items ++ (if b then asked ∷ [] else [])
pushed_asks true items item asked e = map-append asked_in items (item ∷ []) ∙ ap (λ v. map asked_in items ++ v ∷ []) e
pushed_asks false items item asked e = sym (append-nil (map asked_in items))

stepped_asks : (b : Bool) (w : Word) (a : Answer) (items : List Item) → map asked_in (if b then at_exit w a items else items) ≡ map asked_in items ++ []
stepped_asks true w a items = exit_keeps w a items ∙ sym (append-nil (map asked_in items))
stepped_asks false w a items = sym (append-nil (map asked_in items))

asks_with : (c : ℕ) (items : List Item) (e : Entry) → map asked_in (calls_with c items e) ≡ map asked_in items ++ asked_by c e
asks_with c items (Open b f d a) = pushed_asks (b == c) items (Opening f d a) (Opens f d) refl
asks_with c items (Enter b f request a) = pushed_asks (b == c) items (Calling f request (early_answer (refusal_in a))) (Asks f request) refl
asks_with c items (Step b w o found a) = stepped_asks (b == c) w a items
asks_with c items (Unplug d) = sym (append-nil (map asked_in items))
asks_with c items (Tear f by) = sym (append-nil (map asked_in items))
asks_with c items (Kill o) = sym (append-nil (map asked_in items))
asks_with c items (Gone o kept) = sym (append-nil (map asked_in items))
asks_with c items (Dissociated f) = sym (append-nil (map asked_in items))
asks_with c items (Closed f) = sym (append-nil (map asked_in items))

asks_from : (c : ℕ) (items : List Item) (h : List Entry) → map asked_in (calls_from c items h) ≡ map asked_in items ++ asked_through c h
asks_from c items [] = sym (append-nil (map asked_in items))
asks_from c items (e ∷ h) =
    asks_from c (calls_with c items e) h
    ∙ ap (λ v. v ++ asked_through c h) (asks_with c items e)
    ∙ append_assoc (map asked_in items) (asked_by c e) (asked_through c h)

pub calls_in_order : CallsInOrder
calls_in_order h c = asks_from c [] h

-- Calls without an answer.

pushed_unanswered : (items : List Item) (item : Item) → unanswered (items ++ item ∷ []) ≡ unanswered items ++ unanswered (item ∷ [])
pushed_unanswered [] item = refl
pushed_unanswered (Opening f d b ∷ items) item = pushed_unanswered items item
pushed_unanswered (Calling f request None ∷ items) item = ap (λ v. Asks f request ∷ v) (pushed_unanswered items item)
pushed_unanswered (Calling f request (Some b) ∷ items) item = pushed_unanswered items item

-- an exit leaves no call without an answer
all_answered : (a : Answer) (items : List Item) → unanswered (answered a items) ≡ []
all_answered a [] = refl
all_answered a (Opening f d b ∷ items) = all_answered a items
all_answered a (Calling f request None ∷ items) = all_answered a items
all_answered a (Calling f request (Some b) ∷ items) = all_answered a items

early_one : (items : List Item) (f : ℕ) (request : Request) (e : Option Errno) (slot : Option InFlight) → unanswered items ≡ [] → (e ≡ None → slot ≡ Some (entered f request)) → ((r : Errno) → e ≡ Some r → slot ≡ None) → unanswered (items ++ Calling f request (early_answer e) ∷ []) ≡ asked_of slot
early_one items f request None slot none put stays =
    pushed_unanswered items (Calling f request None) ∙ ap (λ v. v ++ Asks f request ∷ []) none ∙ sym (ap asked_of (put refl))
early_one items f request (Some r) slot none put stays =
    pushed_unanswered items (Calling f request (early_answer (Some r))) ∙ ap (λ v. v ++ []) none ∙ sym (ap asked_of (stays r refl))

-- What a step leaves of its call.

pub record StaysOn (w : Word) (call : InFlight) (slot : Option InFlight) : Type 0 where
  pub apart : w ≢ Exit
  pub left : InFlight
  pub is : slot ≡ Some left
  pub file : left.file ≡ call.file
  pub request : left.request ≡ call.request

planned_apart : (call : InFlight) (w v : Word) → next_word call ≡ w → InPlan call v → v ≢ Exit → w ≢ Exit
planned_apart call w v word plan ne e = ne (sym (next_word-planned call v plan.fine plan.planned) ∙ word ∙ e)

closing_apart : (call : InFlight) (w v : Word) → next_word call ≡ w → IsClosing call → closing call ≡ v → v ≢ Exit → w ≢ Exit
closing_apart call w v word ends is ne e = ne (sym is ∙ sym (next_word-closing call ends) ∙ word ∙ e)

refused_apart : (v : Word) → may_refuse v ≡ true → v ≢ Exit
refused_apart v may e = let same : may_refuse v ≡ false = ap may_refuse e in cc

pub stays_or_leaves : (call : InFlight) (w : Word) (slot : Option InFlight) → next_word call ≡ w → OwnTurn call slot → StaysOn w call slot ⊎ ((w ≡ Exit) × (slot ≡ None))
stays_or_leaves call w slot word (OwnTurn.OwnRefuses v e plan may is) = inl (record { apart = planned_apart call w v word plan (refused_apart v may); left = _; is = is; file = refl; request = refl })
stays_or_leaves call w slot word (OwnTurn.OwnReserves n plan is) = inl (record { apart = planned_apart call w Reserve word plan (λ e. cc); left = _; is = is; file = refl; request = refl })
stays_or_leaves call w slot word (OwnTurn.OwnLooks o plan is) = inl (record { apart = planned_apart call w Look word plan (λ e. cc); left = _; is = is; file = refl; request = refl })
stays_or_leaves call w slot word (OwnTurn.OwnMakes o outcome plan is) = inl (record { apart = planned_apart call w Make word plan (λ e. cc); left = _; is = is; file = refl; request = refl })
stays_or_leaves call w slot word (OwnTurn.OwnCommits plan is) = inl (record { apart = planned_apart call w Commit word plan (λ e. cc); left = _; is = is; file = refl; request = refl })
stays_or_leaves call w slot word (OwnTurn.OwnDoes outcome plan is) = inl (record { apart = planned_apart call w Act word plan (λ e. cc); left = _; is = is; file = refl; request = refl })
stays_or_leaves call w slot word (OwnTurn.OwnLocks o plan is) = inl (record { apart = planned_apart call w Lock word plan (λ e. cc); left = _; is = is; file = refl; request = refl })
stays_or_leaves call w slot word (OwnTurn.OwnChecks plan is) = inl (record { apart = planned_apart call w Check word plan (λ e. cc); left = _; is = is; file = refl; request = refl })
stays_or_leaves call w slot word (OwnTurn.OwnFinishes plan is) = inl (record { apart = planned_apart call w Finish word plan (λ e. cc); left = _; is = is; file = refl; request = refl })
stays_or_leaves call w slot word (OwnTurn.OwnAborts ends here is) = inl (record { apart = closing_apart call w Abort word ends here (λ e. cc); left = _; is = is; file = refl; request = refl })
stays_or_leaves call w slot word (OwnTurn.OwnFrees ends here is) = inl (record { apart = closing_apart call w Free word ends here (λ e. cc); left = _; is = is; file = refl; request = refl })
stays_or_leaves call w slot word (OwnTurn.OwnLeaves ends here is) = inr (sym word ∙ next_word-closing call ends ∙ here, is)

not_exit : (w : Word) (a : Answer) (items : List Item) → w ≢ Exit → at_exit w a items ≡ items
not_exit Reserve a items ne = refl
not_exit Look a items ne = refl
not_exit Make a items ne = refl
not_exit Commit a items ne = refl
not_exit Act a items ne = refl
not_exit Lock a items ne = refl
not_exit Check a items ne = refl
not_exit Finish a items ne = refl
not_exit Abort a items ne = refl
not_exit Free a items ne = refl
not_exit Exit a items ne = absurd (ne refl)

-- Every entry.

abbrev pub Answering : State → ℕ → List Item → Type 0
Answering m c items = unanswered items ≡ asked_of (call_of m c)

answering_stepped : (m : State) (c : ℕ) (items : List Item) (w : Word) (o : ℕ) (found : Option QpState) (a : Answer) (m' : State) → IsTurn m c w o found a m' → Answering m c items → Answering m' c (at_exit w a items)
answering_stepped m c items w o found a m' t is =
    let kt = calls_turn m c t.call a m' t.turn in
    let now : call_of m' c ≡ kt.change (Some t.call) = call_of-changed m m' c kt.change t.call kt.calls t.is in
    let one : unanswered items ≡ Asks t.call.file t.call.request ∷ [] = is ∙ ap asked_of t.is in
    ⊎_elim
    (λ s. (
    let same : asked_of (Some s.left) ≡ Asks t.call.file t.call.request ∷ [] = ap (λ f. Asks f s.left.request ∷ []) s.file ∙ ap (λ r. Asks t.call.file r ∷ []) s.request in
    ap unanswered (not_exit w a items s.apart) ∙ one ∙ sym same ∙ sym (ap asked_of (now ∙ s.is))))
    (λ e. ap (λ v. unanswered (at_exit v a items)) e.0 ∙ all_answered a items ∙ sym (ap asked_of (now ∙ e.1)))
    (stays_or_leaves t.call w (kt.change (Some t.call)) t.word kt.own)

-- an actor has a place in the table of calls
slice_has : {X : Type 0} (xs : List X) (i : ℕ) → i < length xs → (x : X) × (slice_get xs i ≡ Some x)
slice_has [] i low = absurd (omega arith)
slice_has (x ∷ xs) zero low = (x, refl)
slice_has (x ∷ xs) (suc i) low = slice_has xs i (omega arith)

put_there : (m : State) (c f : ℕ) (request : Request) → Reached m → IsActor c → call_of (record m { calls = at_place m.calls c (put_call (entered f request)) }) c ≡ Some (entered f request)
put_there m c f request r actor =
    let has = slice_has m.calls c (omega (arith, r.calls, actor.1)) in
    ap the_call (slice_get-at_place_same m.calls c (put_call (entered f request)) ∙ ap (option_map (put_call (entered f request))) has.1)

entered_slot : (m : State) (c f : ℕ) (request : Request) (e : Option Errno) → Reached m → IsActor c → e ≡ None → call_of (unless_answered m e (record m { calls = at_place m.calls c (put_call (entered f request)) })) c ≡ Some (entered f request)
entered_slot m c f request None r actor is = put_there m c f request r actor
entered_slot m c f request (Some e) r actor is = absurd (none-some e (sym is))

refused_slot : (m : State) (c f : ℕ) (request : Request) (e : Option Errno) (k : Errno) → call_of m c ≡ None → e ≡ Some k → call_of (unless_answered m e (record m { calls = at_place m.calls c (put_call (entered f request)) })) c ≡ None
refused_slot m c f request None k idle is = absurd (none-some k is)
refused_slot m c f request (Some e) k idle is = idle

answering_entered : (m : State) (c f : ℕ) (request : Request) (a : Answer) (items : List Item) → Reached m → Allowed m (Enter c f request a) → Answering m c items → Answering (after m (Enter c f request a)) c (items ++ Calling f request (early_answer (refusal_in a)) ∷ [])
answering_entered m c f request a items r allowed is =
    early_one items f request (refusal_in a) (call_of (after m (Enter c f request a)) c) (is ∙ ap asked_of allowed.2)
    (entered_slot m c f request (refusal_in a) r allowed.0)
    (λ k e. refused_slot m c f request (refusal_in a) k allowed.2 e)

opened_unanswered : (b : Bool) (f d : ℕ) (a : Answer) (items : List Item) → unanswered (if b then items ++ Opening f d a ∷ [] else items) ≡ unanswered items
opened_unanswered true f d a items = pushed_unanswered items (Opening f d a) ∙ append-nil (unanswered items)
opened_unanswered false f d a items = refl

-- an entry of another actor, or of none, or an Open
items_other : (c : ℕ) (e : Entry) (items : List Item) → is_of c e ≡ false → unanswered (calls_with c items e) ≡ unanswered items
items_other c (Open i f d a) items other = opened_unanswered (i == c) f d a items
items_other c (Enter i f request a) items other = rw other
items_other c (Step i w o found a) items other = rw other
items_other c (Unplug d) items other = refl
items_other c (Tear f by) items other = refl
items_other c (Kill o) items other = refl
items_other c (Gone o kept) items other = refl
items_other c (Dissociated f) items other = refl
items_other c (Closed f) items other = refl

answering_other : (m : State) (e : Entry) (c : ℕ) (items : List Item) → is_of c e ≡ false → Answering m c items → Answering (after m e) c (calls_with c items e)
answering_other m e c items other is = items_other c e items other ∙ is ∙ sym (ap asked_of (call_of-after m e c other))

entered_items : (b c f : ℕ) (request : Request) (a : Answer) (items : List Item) → (b == c) ≡ true → calls_with c items (Enter b f request a) ≡ (items ++ Calling f request (early_answer (refusal_in a)) ∷ [])
entered_items b c f request a items e = rw e

stepped_items : (b c : ℕ) (w : Word) (o : ℕ) (found : Option QpState) (a : Answer) (items : List Item) → (b == c) ≡ true → calls_with c items (Step b w o found a) ≡ at_exit w a items
stepped_items b c w o found a items e = rw e

answering_enter : (m : State) (b c f : ℕ) (request : Request) (a : Answer) (items : List Item) → Reached m → b ≡ c → (b == c) ≡ true → Allowed m (Enter b f request a) → Answering m c items → Answering (after m (Enter b f request a)) c (calls_with c items (Enter b f request a))
answering_enter m b c f request a items r same test allowed is =
    let P : ℕ → Type 0 = λ i. unanswered items ≡ asked_of (call_of m i) in
    ap unanswered (entered_items b c f request a items test)
    ∙ answering_entered m b f request a items r allowed (subst P (sym same) is)
    ∙ ap (λ i. asked_of (call_of (after m (Enter b f request a)) i)) same

answering_step : (m : State) (b c : ℕ) (w : Word) (o : ℕ) (found : Option QpState) (a : Answer) (items : List Item) → b ≡ c → (b == c) ≡ true → Allowed m (Step b w o found a) → Answering m c items → Answering (after m (Step b w o found a)) c (calls_with c items (Step b w o found a))
answering_step m b c w o found a items same test allowed is =
    let m' = after m (Step b w o found a) in
    let Q : ℕ → Type 0 = λ i. IsTurn m i w o found a m' in
    ap unanswered (stepped_items b c w o found a items test)
    ∙ answering_stepped m c items w o found a m' (subst Q same (IsTurn-allowed m b w o found a allowed)) is

answering_after : (m : State) (e : Entry) (c : ℕ) (items : List Item) → Reached m → Allowed m e → Answering m c items → Answering (after m e) c (calls_with c items e)
answering_after m (Open b f d a) c items r allowed is = answering_other m (Open b f d a) c items refl is
answering_after m (Enter b f request a) c items r allowed is =
    ⊎_elim
    (λ same. answering_enter m b c f request a items r same.1 same.0 allowed is)
    (λ other. answering_other m (Enter b f request a) c items other.0 is)
    (eqb_tells b c)
answering_after m (Step b w o found a) c items r allowed is =
    ⊎_elim
    (λ same. answering_step m b c w o found a items same.1 same.0 allowed is)
    (λ other. answering_other m (Step b w o found a) c items other.0 is)
    (eqb_tells b c)
answering_after m (Unplug d) c items r allowed is = answering_other m (Unplug d) c items refl is
answering_after m (Tear f by) c items r allowed is = answering_other m (Tear f by) c items refl is
answering_after m (Kill o) c items r allowed is = answering_other m (Kill o) c items refl is
answering_after m (Gone o kept) c items r allowed is = answering_other m (Gone o kept) c items refl is
answering_after m (Dissociated f) c items r allowed is = answering_other m (Dissociated f) c items refl is
answering_after m (Closed f) c items r allowed is = answering_other m (Closed f) c items refl is

answering_from : (m : State) (h : List Entry) (c : ℕ) (items : List Item) → Reached m → IsLegalFrom m h → Answering m c items → Answering (state_from m h) c (calls_from c items h)
answering_from m [] c items r legal is = is
answering_from m (e ∷ h) c items r legal is =
    answering_from (after m e) h c (calls_with c items e) (Reached-after m e legal.0 r) legal.1 (answering_after m e c items r legal.0 is)

idle_by : (slot : Option InFlight) → ((k : InFlight) → slot ≡ Some k → ⊥) → asked_of slot ≡ []
idle_by None none = refl
idle_by (Some k) none = absurd (none k refl)

start_idle : (c : ℕ) → asked_of (call_of start c) ≡ []
unfolding start
start_idle c = idle_by (call_of start c) (λ k is. start_calls c ACTOR_PLACES k is)

-- a call has no answer yet exactly while it is in flight
pub calls_in_flight : CallsInFlight
calls_in_flight h c legal = answering_from start h c [] Reached-start legal (sym (start_idle c))
