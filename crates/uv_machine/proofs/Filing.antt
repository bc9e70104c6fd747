-- The files of objects and calls are in use, and a file is torn by an actor.
use Rattle.std.proofs.Common.{◌≡◌, ◌≢◌, ℕ, zero, suc, Bool, true, false, List, [], ◌∷◌, Option, Some, None, map, refl, ap, sym, ◌∙◌, subst, inl, inr, ◌⊎◌, ⊎_elim}
use Rattle.std.specs.Prelude.{not, ◌&&◌, replicate, slice_get, filter, option_map}
use Rattle.std.proofs.lemmas.Option.{none-some}
use Rattle.std.proofs.lemmas.Bool.{and_parts, eq-eqb, ne_eqb}
use Rattle.std.proofs.lemmas.Bool.Decides.{eqb_tells}
use Rattle.uv_num.specs.declared.errno.Errno.{Errno}
use Rattle.uv_num.specs.declared.request.Act as request
use Rattle.uv_num.specs.declared.request.Act.TheVariants.{Modify, Query, Bind, Unbind, Async}
use Rattle.uv_num.specs.declared.limits.TheConstants.{ACTOR_PLACES, FILES}
use Rattle.uv_machine.specs.declared.entry.Entry.{Entry}
use Rattle.uv_machine.specs.declared.entry.Entry.TheVariants.{Open, Enter, Step, Unplug, Tear, Kill, Gone, Dissociated, Closed}
use Rattle.uv_machine.specs.declared.entry.Answer.{Answer}
use Rattle.uv_machine.specs.declared.entry.Answer.TheVariants as answer
use Rattle.uv_machine.specs.declared.file.File.{File}
use Rattle.uv_machine.specs.declared.file.FilePhase.{FilePhase}
use Rattle.uv_machine.specs.declared.file.FilePhase.TheVariants as file
use Rattle.uv_machine.specs.declared.object.Object.{Object}
use Rattle.uv_machine.specs.declared.object.Change.{Change}
use Rattle.uv_machine.specs.declared.object.Change.TheVariants.{ToLive, ToDoomed, ToHusk, ToBound}
use Rattle.uv_machine.specs.declared.call.InFlight.{InFlight}
use Rattle.uv_machine.specs.declared.state.State.{State}
use Rattle.uv_machine.specs.Objects.{on_object}
use Rattle.uv_machine.specs.Plans.{acted_on, own_object}
use Rattle.uv_machine.specs.States.{the_call, call_of, object_with, phase_in, phase_of, is_quiet, is_closing, is_callable, has_standing, start, fresh_file}
use Rattle.uv_machine.specs.Effects.{refusal_in, act, binding_of, not_with_id, not_in_file, gone_from, unless_answered, with_file, opened, in_phase, dissociated}
use Rattle.uv_machine.specs.Histories.{IsActor, Allowed, after, state_of, state_from, IsLegalFrom}
use Rattle.uv_machine.specs.Reached.{IsIn, Reached}
use Rattle.uv_machine.specs.Made.{made_in}
use Rattle.uv_machine.specs.ObjectLaws.{bound_to}
use Rattle.uv_machine.specs.Filed.{is_over, Filed, TornWell, has_one, LegalIsFiled, LegalTornWell, LegalHasDomains}
use Rattle.uv_machine.proofs.Members.{IsIn-map, Passes-filter}
use Rattle.uv_machine.proofs.Asking.{keeps_request}
use Rattle.uv_machine.proofs.MadeKept.{legal_known, uses_domain}
use Rattle.uv_num.specs.declared.ids.Ids.{Ids}
use Rattle.uv_num.specs.declared.ids.Ids.TheVariants.{Empty, One, Two, Three, Four}
use Rattle.uv_num.specs.Ids.{ids_of}
use Rattle.uv_machine.proofs.Turns.{Turn, object_made, IsTurn-allowed}
use Rattle.uv_machine.proofs.Turns.Turn.{Refuses, Reserves, Looks, Makes, Commits, Does, Locks, Checks, Finishes, Aborts, Frees, Leaves}
use Rattle.uv_machine.proofs.OwnCall.{OwnTurn, CallsTurn, calls_turn}
use Rattle.uv_machine.proofs.Calling.{quiet_none, CallBehind, call_behind}
use Rattle.uv_machine.proofs.Changing.{on_object-file}
use Rattle.uv_machine.proofs.Graph.{in_room}
use Rattle.uv_machine.proofs.Holding.{finish_objects}
use Rattle.uv_machine.proofs.Files.{phase_of-here}
use Rattle.uv_machine.proofs.FilesApart.{phase_of-apart}
use Rattle.uv_machine.proofs.Reaching.{Reached-start, Reached-after, was_callable, new_or_old, start_calls}

-- A file that is torn is torn by an actor.

apart_by : (m m' : State) (f : ℕ) → TornWell m → ((g : ℕ) → f ≢ g → phase_of m' g ≡ phase_of m g) → ((b : ℕ) → phase_of m' f ≡ file.Tearing b → IsActor b) → TornWell m'
apart_by m m' f t other here g b e =
    ⊎_elim
    (λ h. here b (ap (phase_of m') h.1 ∙ e))
    (λ h. t g b (sym (other g h.1) ∙ e))
    (eqb_tells f g)

none_torn : (p : FilePhase) (b : ℕ) → p ≡ file.Tearing b → (p ≡ file.Fresh) ⊎ ((p ≡ file.Open) ⊎ ((p ≡ file.Dissociated) ⊎ (p ≡ file.Closed))) → ⊥
none_torn p b e (inl h) = cc
none_torn p b e (inr (inl h)) = cc
none_torn p b e (inr (inr (inl h))) = cc
none_torn p b e (inr (inr (inr h))) = cc

opened_phase : (c d : ℕ) (slot : Option File) → (phase_in (option_map (opened c d) slot) ≡ file.Fresh) ⊎ ((phase_in (option_map (opened c d) slot) ≡ file.Open) ⊎ ((phase_in (option_map (opened c d) slot) ≡ file.Dissociated) ⊎ (phase_in (option_map (opened c d) slot) ≡ file.Closed)))
opened_phase c d None = inl refl
opened_phase c d (Some x) = inr (inl refl)

left_phase : (slot : Option File) → (phase_in (option_map dissociated slot) ≡ file.Fresh) ⊎ ((phase_in (option_map dissociated slot) ≡ file.Open) ⊎ ((phase_in (option_map dissociated slot) ≡ file.Dissociated) ⊎ (phase_in (option_map dissociated slot) ≡ file.Closed)))
left_phase None = inl refl
left_phase (Some x) = inr (inr (inl refl))

closed_phase : (slot : Option File) → (phase_in (option_map (in_phase file.Closed) slot) ≡ file.Fresh) ⊎ ((phase_in (option_map (in_phase file.Closed) slot) ≡ file.Open) ⊎ ((phase_in (option_map (in_phase file.Closed) slot) ≡ file.Dissociated) ⊎ (phase_in (option_map (in_phase file.Closed) slot) ≡ file.Closed)))
closed_phase None = inl refl
closed_phase (Some x) = inr (inr (inr refl))

pub same_by : (a b : ℕ) → file.Tearing a ≡ file.Tearing b → a ≡ b
same_by a b e = let P : FilePhase → ℕ = λ p. elim p as (λ _. ℕ) [ file.Fresh ↦ 0 | file.Open ↦ 0 | file.Tearing by ↦ by | file.Dissociated ↦ 0 | file.Closed ↦ 0 ] in ap P e

torn_phase : (by b : ℕ) (slot : Option File) → phase_in (option_map (in_phase (file.Tearing by)) slot) ≡ file.Tearing b → IsActor by → IsActor b
torn_phase by b None e actor = absurd (none_torn file.Fresh b e (inl refl))
torn_phase by b (Some x) e actor = let P : ℕ → Type 0 = λ v. IsActor v in subst P (same_by by b e) actor

torn_unless : (m m' : State) (e : Option Errno) → TornWell m → TornWell m' → TornWell (unless_answered m e m')
torn_unless m m' None t t' = t'
torn_unless m m' (Some e) t t' = t

torn_after : (m : State) (e : Entry) → Allowed m e → TornWell m → TornWell (after m e)
torn_after m (Open c f d a) allowed t =
    torn_unless m (with_file m f (opened c d)) (refusal_in a) t
    (apart_by m (with_file m f (opened c d)) f t (λ g ne. phase_of-apart m (Open c f d answer.Ok) g (ne_eqb f g ne))
    (λ b e. absurd (none_torn _ b (sym (phase_of-here m f (opened c d)) ∙ e) (opened_phase c d (slice_get m.files f)))))
torn_after m (Enter c f request a) allowed t = λ g b e. t g b (sym (phase_of-apart m (Enter c f request a) g refl) ∙ e)
torn_after m (Step c w o found a) allowed t = λ g b e. t g b (sym (phase_of-apart m (Step c w o found a) g refl) ∙ e)
torn_after m (Unplug d) allowed t = t
torn_after m (Tear f by) allowed t =
    apart_by m (after m (Tear f by)) f t (λ g ne. phase_of-apart m (Tear f by) g (ne_eqb f g ne))
    (λ b e. torn_phase by b (slice_get m.files f) (sym (phase_of-here m f (in_phase (file.Tearing by))) ∙ e) allowed.0)
torn_after m (Kill o) allowed t = t
torn_after m (Gone o kept) allowed t = λ g b e. t g b (sym (phase_of-apart m (Gone o kept) g refl) ∙ e)
torn_after m (Dissociated f) allowed t =
    apart_by m (after m (Dissociated f)) f t (λ g ne. phase_of-apart m (Dissociated f) g (ne_eqb f g ne))
    (λ b e. absurd (none_torn _ b (sym (phase_of-here m f dissociated) ∙ e) (left_phase (slice_get m.files f))))
torn_after m (Closed f) allowed t =
    apart_by m (after m (Closed f)) f t (λ g ne. phase_of-apart m (Closed f) g (ne_eqb f g ne))
    (λ b e. absurd (none_torn _ b (sym (phase_of-here m f (in_phase file.Closed)) ∙ e) (closed_phase (slice_get m.files f))))

torn_from : (m : State) (h : List Entry) → IsLegalFrom m h → TornWell m → TornWell (state_from m h)
torn_from m [] legal t = t
torn_from m (e ∷ h) legal t = torn_from (after m e) h legal.1 (torn_after m e legal.0 t)

fresh_slot : (n f b : ℕ) → phase_in (slice_get (replicate n fresh_file) f) ≡ file.Tearing b → ⊥
fresh_slot zero f b e = none_torn file.Fresh b e (inl refl)
fresh_slot (suc n) zero b e = none_torn file.Fresh b e (inl refl)
fresh_slot (suc n) (suc f) b e = fresh_slot n f b e

torn_start : TornWell start
unfolding start
torn_start f b e = absurd (fresh_slot FILES f b e)

pub legal_torn : LegalTornWell
legal_torn h legal = torn_from start h legal torn_start

-- Objects and calls are of files in use.

abbrev pub Stays : State → State → Type 0
Stays m m' = (g : ℕ) → is_over (phase_of m g) ≡ false → is_over (phase_of m' g) ≡ false

filed_same : (m m' : State) → m'.objects ≡ m.objects → m'.calls ≡ m.calls → Stays m m' → Filed m → Filed m'
filed_same m m' objects calls stays f = record {
  objects = λ x k. (let P : List Object → Type 0 = λ v. IsIn x v in stays x.file (f.objects x (subst P objects k)));
  calls = λ b k is. stays k.file (f.calls b k (sym (ap (λ v. the_call (slice_get v b)) calls) ∙ is));
}

stays_by : (m m' : State) (f : ℕ) → ((g : ℕ) → f ≢ g → phase_of m' g ≡ phase_of m g) → (is_over (phase_of m f) ≡ false → is_over (phase_of m' f) ≡ false) → Stays m m'
stays_by m m' f other here g e =
    ⊎_elim
    (λ h. (let P : ℕ → Type 0 = λ v. is_over (phase_of m v) ≡ false → is_over (phase_of m' v) ≡ false in subst P h.1 here e))
    (λ h. ap is_over (other g h.1) ∙ e)
    (eqb_tells f g)

over_opened : (c d : ℕ) (slot : Option File) → is_over (phase_in slot) ≡ false → is_over (phase_in (option_map (opened c d) slot)) ≡ false
over_opened c d None e = absurd cc
over_opened c d (Some x) e = refl

over_torn : (by : ℕ) (slot : Option File) → is_over (phase_in slot) ≡ false → is_over (phase_in (option_map (in_phase (file.Tearing by)) slot)) ≡ false
over_torn by None e = absurd cc
over_torn by (Some x) e = refl

over_left : (slot : Option File) → is_over (phase_in slot) ≡ false → is_over (phase_in (option_map dissociated slot)) ≡ false
over_left None e = absurd cc
over_left (Some x) e = refl

callable_used : (p : FilePhase) → is_callable p ≡ true → is_over p ≡ false
callable_used file.Fresh e = absurd cc
callable_used file.Open e = refl
callable_used (file.Tearing by) e = absurd cc
callable_used file.Dissociated e = refl
callable_used file.Closed e = absurd cc

own_file : (call : InFlight) (slot : Option InFlight) (k : InFlight) → OwnTurn call slot → slot ≡ Some k → k.file ≡ call.file
own_file call slot k own e = (keeps_request call slot k own e).file

-- an object after an entry is of the file of one before it, or of this call's
pub record FiledAs (objects : List Object) (f : ℕ) (y : Object) : Type 0 where
  pub from : ((x : Object) × IsIn x objects × (y.file ≡ x.file)) ⊎ (y.file ≡ f)

abbrev pub AllFiled : List Object → ℕ → List Object → Type 0
AllFiled objects f objects' = (y : Object) → IsIn y objects' → FiledAs objects f y

filed_here : (objects : List Object) (f : ℕ) → AllFiled objects f objects
filed_here objects f y k = record { from = inl (y, k, refl) }

filed_map : (objects : List Object) (f o : ℕ) (change : Change) → AllFiled objects f (map (on_object o change) objects)
filed_map objects f o change y k =
    let from = IsIn-map (on_object o change) y objects k in
    record { from = inl (from.item, from.within, ap (λ (v : Object). v.file) from.gives ∙ on_object-file o change from.item) }

filed_filter : (objects : List Object) (f : ℕ) (p : Object → Bool) → AllFiled objects f (filter p objects)
filed_filter objects f p y k = record { from = inl (y, (Passes-filter p y objects k).within, refl) }

module _ (m : State) (c : ℕ) (call : InFlight) where
  filed_as : (m' n : State) → m' ≡ n → AllFiled m.objects call.file n.objects → AllFiled m.objects call.file m'.objects
  filed_as m' n e h = let P : State → Type 0 = λ s. AllFiled m.objects call.file s.objects in subst P (sym e) h

  filed_act : (a : Answer) (what : request.Act) → AllFiled m.objects call.file (act m c call a what).objects
  filed_act a (Modify to attrs) = filed_here m.objects call.file
  filed_act a Query = filed_here m.objects call.file
  filed_act a (Bind offset long access) = filed_map m.objects call.file (acted_on call) (ToBound (Some (binding_of call offset long access)))
  filed_act a (Unbind offset long access) = filed_map m.objects call.file (acted_on call) (ToBound None)
  filed_act a Async = filed_here m.objects call.file

  filed_new : (z y : Object) → z.file ≡ call.file → IsIn y m.objects ⊎ (y ≡ z) → FiledAs m.objects call.file y
  filed_new z y e (inl k) = record { from = inl (y, k, refl) }
  filed_new z y e (inr same) = record { from = inr (ap (λ (v : Object). v.file) same ∙ e) }

  filed_turn : (a : Answer) (m' : State) → Turn m c call a m' → AllFiled m.objects call.file m'.objects
  filed_turn a m' (Refuses t) = filed_as m' _ t.gives (filed_here m.objects call.file)
  filed_turn a m' (Reserves t) = filed_as m' _ t.gives (filed_here m.objects call.file)
  filed_turn a m' (Looks t) = filed_as m' _ t.gives (filed_here m.objects call.file)
  filed_turn a m' (Makes t) =
      let z = object_made m call t.kind t.index in
      filed_as m' _ t.gives (λ y k. filed_new z y refl (in_room y z m.objects k))
  filed_turn a m' (Commits t) = filed_as m' _ t.gives (filed_map m.objects call.file (own_object call) ToLive)
  filed_turn a m' (Does t) = filed_as m' _ t.gives (filed_act a t.what)
  filed_turn a m' (Locks t) = filed_as m' _ t.gives (filed_here m.objects call.file)
  filed_turn a m' (Checks t) = filed_as m' _ t.gives (filed_map m.objects call.file (own_object call) ToDoomed)
  filed_turn a m' (Finishes t) =
      let P : List Object → Type 0 = λ v. AllFiled m.objects call.file v in
      filed_as m' _ t.gives (subst P (sym (finish_objects m c (own_object call))) (filed_filter m.objects call.file (not_with_id (own_object call))))
  filed_turn a m' (Aborts t) = filed_as m' _ t.gives (filed_here m.objects call.file)
  filed_turn a m' (Frees t) = filed_as m' _ t.gives (filed_here m.objects call.file)
  filed_turn a m' (Leaves t) = filed_as m' _ t.gives (filed_here m.objects call.file)

  used_by : (f : Filed m) (is : call_of m c ≡ Some call) (y : Object) → FiledAs m.objects call.file y → is_over (phase_of m y.file) ≡ false
  used_by f is y from =
      ⊎_elim
      (λ h. ap (λ v. is_over (phase_of m v)) h.2 ∙ f.objects h.0 h.1)
      (λ h. ap (λ v. is_over (phase_of m v)) h ∙ f.calls c call is)
      from.from

  call_file : (f : Filed m) (is : call_of m c ≡ Some call) (m' : State) (t : CallsTurn m c call m') (b : ℕ) (k : InFlight) → CallBehind m c b (t.change (Some call)) k → is_over (phase_of m k.file) ≡ false
  call_file f is m' t b k (CallBehind.IsOwn same e) = ap (λ v. is_over (phase_of m v)) (own_file call (t.change (Some call)) k t.own e) ∙ f.calls c call is
  call_file f is m' t b k (CallBehind.IsOther ne e) = f.calls b k e

filed_unless : (m m' : State) (e : Option Errno) → Filed m → (e ≡ None → Filed m') → Filed (unless_answered m e m')
filed_unless m m' None f go = go refl
filed_unless m m' (Some e) f go = f

filed_gone : (m : State) (o : ℕ) (slot : Option Object) → Filed m → Filed (gone_from m o slot)
filed_gone m o None f = f
filed_gone m o (Some x) f = record {
  objects = λ y k. (
      let from = IsIn-map (on_object o ToHusk) y m.objects k in
      ap (λ v. is_over (phase_of m v)) (ap (λ (v : Object). v.file) from.gives ∙ on_object-file o ToHusk from.item) ∙ f.objects from.item from.within);
  calls = f.calls;
}

filed_after : (m : State) (e : Entry) → Reached m → Allowed m e → Filed m → Filed (after m e)
filed_after m (Open c f d a) r allowed filed =
    filed_unless m (with_file m f (opened c d)) (refusal_in a) filed
    (λ e. filed_same m (with_file m f (opened c d)) refl refl
    (stays_by m (with_file m f (opened c d)) f (λ g ne. phase_of-apart m (Open c f d answer.Ok) g (ne_eqb f g ne)) (λ h. ap is_over (phase_of-here m f (opened c d)) ∙ over_opened c d (slice_get m.files f) h)) filed)
filed_after m (Enter c f request a) r allowed filed =
    filed_unless m _ (refusal_in a) filed
    (λ e. (
    let callable = was_callable (is_callable (phase_of m f)) _ a allowed.3 e in
    record {
      objects = filed.objects;
      calls = λ b k is. ⊎_elim
          (λ new. ap (λ (v : InFlight). is_over (phase_of m v.file)) (sym new.1) ∙ callable_used (phase_of m f) callable)
          (λ old. filed.calls b k old.1)
          (new_or_old m c f request r allowed.2 callable b k is);
    }))
filed_after m (Step c w o found a) r allowed filed =
    let t = IsTurn-allowed m c w o found a allowed in
    let m' = after m (Step c w o found a) in
    let kt = calls_turn m c t.call a m' t.turn in
    let phase : (g : ℕ) → phase_of m' g ≡ phase_of m g = λ g. phase_of-apart m (Step c w o found a) g refl in
    record {
      objects = λ y k. ap is_over (phase y.file) ∙ used_by m c t.call filed t.is y (filed_turn m c t.call a m' t.turn y k);
      calls = λ b k is. ap is_over (phase k.file) ∙ call_file m c t.call filed t.is m' kt b k (call_behind m m' c t.call kt.change t.is kt.calls b k is);
    }
filed_after m (Unplug d) r allowed filed = filed_same m (after m (Unplug d)) refl refl (λ g e. e) filed
filed_after m (Tear f by) r allowed filed =
    filed_same m (after m (Tear f by)) refl refl
    (stays_by m (after m (Tear f by)) f (λ g ne. phase_of-apart m (Tear f by) g (ne_eqb f g ne)) (λ h. ap is_over (phase_of-here m f (in_phase (file.Tearing by))) ∙ over_torn by (slice_get m.files f) h)) filed
filed_after m (Kill o) r allowed filed = record {
  objects = λ y k. (
      let from = IsIn-map (on_object o ToDoomed) y m.objects k in
      ap (λ v. is_over (phase_of m v)) (ap (λ (v : Object). v.file) from.gives ∙ on_object-file o ToDoomed from.item) ∙ filed.objects from.item from.within);
  calls = filed.calls;
}
filed_after m (Gone o kept) r allowed filed = filed_gone m o (object_with m o) filed
filed_after m (Dissociated f) r allowed filed =
    filed_same m (after m (Dissociated f)) refl refl
    (stays_by m (after m (Dissociated f)) f (λ g ne. phase_of-apart m (Dissociated f) g (ne_eqb f g ne)) (λ h. ap is_over (phase_of-here m f dissociated) ∙ over_left (slice_get m.files f) h)) filed
filed_after m (Closed f) r allowed filed =
    let parts = and_parts (is_closing (phase_of m f)) (is_quiet m f && not (has_standing m f)) allowed.1 in
    let quiet = (and_parts (is_quiet m f) (not (has_standing m f)) parts.1).0 in
    let m' = after m (Closed f) in
    let other : (g : ℕ) → f ≢ g → phase_of m' g ≡ phase_of m g = λ g ne. phase_of-apart m (Closed f) g (ne_eqb f g ne) in
    record {
      objects = λ y k. (
          let p = Passes-filter (not_in_file f) y m.objects k in
          let test = p.test in
          let ne : f ≢ y.file = λ e. (let no : not_in_file f y ≡ false = ap not (eq-eqb y.file f (sym e)) in cc) in
          ap is_over (other y.file ne) ∙ filed.objects y p.within);
      calls = λ b k is. (let ne : f ≢ k.file = λ e. quiet_none m b f k quiet is (sym e) in ap is_over (other k.file ne) ∙ filed.calls b k is);
    }

filed_from : (m : State) (h : List Entry) → Reached m → IsLegalFrom m h → Filed m → Filed (state_from m h)
filed_from m [] r legal f = f
filed_from m (e ∷ h) r legal f = filed_from (after m e) h (Reached-after m e legal.0 r) legal.1 (filed_after m e r legal.0 f)

filed_start : Filed start
unfolding start
filed_start = record { objects = λ x k. absurd k; calls = λ b k is. absurd (start_calls b ACTOR_PLACES k is) }

pub legal_filed : LegalIsFiled
legal_filed h legal = filed_from start h Reached-start legal filed_start

-- What windows use.

one_of : (uses : Ids) (d : ℕ) (rest : List ℕ) → ids_of uses ≡ d ∷ rest → has_one uses ≡ true
one_of Empty d rest e = absurd (none-some d (ap (λ v. slice_get v 0) e))
one_of (One a) d rest e = refl
one_of (Two a b) d rest e = refl
one_of (Three a b c) d rest e = refl
one_of (Four a b c v) d rest e = refl

pub legal_domains : LegalHasDomains
legal_domains h legal x k window standing =
    let d = uses_domain (made_in h) (state_of h) (legal_known h legal) x k window standing in
    one_of x.uses d.domain (bound_to x.binding) d.now
