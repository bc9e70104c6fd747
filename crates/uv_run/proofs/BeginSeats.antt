-- The seats of actors as something begins: what is asked for, and what is so as an actor has nothing in flight.
use Rattle.std.proofs.Common.{◌≡◌, ℕ, ◌<◌, Bool, true, false, List, [], ◌∷◌, ◌++◌, Option, Some, None, length, slice_get, refl, ap, sym, ◌∙◌, subst, filter, append-nil, ⊎_elim}
use Rattle.std.specs.Prelude.{◌≢◌, ◌==◌, get_or, not, option_map, option_to_list, unwrap_or, if◌then◌else◌}
use Rattle.std.proofs.lemmas.Bool.{eq-eqb, ne_eqb}
use Rattle.std.proofs.lemmas.Option.{slice_get-get_or}
use Rattle.std.proofs.lemmas.Bool.Decides.{eqb_tells}
use Rattle.uv_num.specs.declared.errno.Errno.{Errno}
use Rattle.uv_num.specs.declared.errno.Errno.TheVariants.{Io}
use Rattle.uv_num.specs.declared.limits.TheConstants.{ACTOR_PLACES}
use Rattle.uv_num.specs.declared.request.Request.{Request}
use Rattle.uv_num.proofs.PlaceLaws.{length-at_place, slice_get-at_place_other, slice_get-at_place_same}
use Rattle.uv_machine.specs.declared.entry.Answer.{Answer}
use Rattle.uv_machine.specs.declared.entry.Answer.TheVariants as answer
use Rattle.uv_machine.specs.declared.entry.Entry.{Entry}
use Rattle.uv_machine.specs.declared.entry.Entry.TheVariants as entry
use Rattle.uv_machine.specs.Calls.{Item, calls_of, calls_with, early_answer}
use Rattle.uv_machine.specs.Calls.Item.{Opening, Calling}
use Rattle.uv_machine.specs.Effects.{refusal_in}
use Rattle.uv_machine.specs.Histories.{IsLegal}
use Rattle.uv_machine.specs.States.{call_of, is_unplugged, phase_of}
use Rattle.uv_machine.proofs.Clients.{calls_go_on}
use Rattle.uv_graph.specs.Slots.{put_slot}
use Rattle.uv_run.specs.declared.flight.Task.{Task}
use Rattle.uv_run.specs.declared.flight.Task.TheVariants as task
use Rattle.uv_run.specs.declared.flight.Teardown.{Teardown}
use Rattle.uv_run.specs.declared.flight.Teardown.TheVariants.{Closing, Unplugging}
use Rattle.uv_run.specs.declared.heard.Event.TheVariants as event
use Rattle.uv_run.specs.declared.reply.Reply.{Reply}
use Rattle.uv_run.specs.declared.reply.Telling.{Telling}
use Rattle.uv_run.specs.Asking.{Asking}
use Rattle.uv_run.specs.Follows.{IsAnswered, is_asked_by, is_call, replied_to}
use Rattle.uv_run.specs.Follows.AreAnswered.{Call, Teardown as Torn}
use Rattle.uv_run.specs.Site.{Begins, Site, Turned, begun, close_turn, closes, ends_with, entered, goes_on, is_busy, state_at, teardown_of, unplugs, with_entry, with_teardown}
use Rattle.uv_run.specs.Stand.{Stand, after_turned, begun_by, put_line, reply_by, with_begun}
use Rattle.uv_run.proofs.Determined.{is_told}
use Rattle.uv_run.proofs.Once.{idle_parts}
use Rattle.uv_run.proofs.Seated.{Apart, SeatOf, SeatedAt, legal_front, no_reply, other_reply, seated_after, told_reply, torn_untold}
use Rattle.uv_run.proofs.Shapes.{Over, Tearing, close_shape}
use Rattle.uv_run.proofs.Sitting.{Sits, asked_other, asked_own, rests, sits_moved}
use Rattle.uv_run.proofs.Sitting.Sits.{Rests, InCall, InTear}
use Rattle.uv_run.proofs.Sounds.{put_there, slot_other}

-- Whose close isn't told.

abbrev pub all_told : ℕ → Bool
all_told c = true

abbrev pub all_but : ℕ → ℕ → Bool
all_but a c = not (c == a)

idle_call : (s : Site) (a : ℕ) → is_busy s a ≡ false → call_of (state_at s) a ≡ None
idle_call s a idle = (idle_parts (call_of (state_at s) a) (teardown_of s a) idle).0

idle_teardown : (s : Site) (a : ℕ) → is_busy s a ≡ false → teardown_of s a ≡ None
idle_teardown s a idle = (idle_parts (call_of (state_at s) a) (teardown_of s a) idle).1

-- an actor with nothing in flight has its answers
pub seat_rests : (asked : List Asking) (s : Stand) (a : ℕ) → IsLegal s.site.history → is_busy s.site a ≡ false → SeatOf true asked s a → SeatOf false asked s a
seat_rests asked s a legal idle sits =
    rests (filter (is_asked_by a) asked) (filter (replied_to a) s.replies) s.site.history a (begun_by s a) (teardown_of s.site a) legal (idle_call s.site a idle) (idle_teardown s.site a idle) sits

pub seated_quiet : (asked : List Asking) (s : Stand) (a : ℕ) → (IsLegal s.site.history → SeatOf true asked s a → SeatOf false asked s a) → SeatedAt all_told asked s → SeatedAt (all_but a) asked s
seated_quiet asked s a quiet all legal =
    let seated = all legal in
    record {
      sits = λ c.
          ⊎_elim
          (λ same. (let B : Bool → Type 0 = λ v. SeatOf (not v) asked s c in
          let P : ℕ → Type 0 = λ v. SeatOf false asked s v in
          subst B (sym same.0) (subst P (sym same.1) (quiet legal (seated.sits a)))))
          (λ other. (let B : Bool → Type 0 = λ v. SeatOf (not v) asked s c in subst B (sym other.0) (seated.sits c)))
          (eqb_tells c a);
      begun = seated.begun;
      teardowns = seated.teardowns;
    }

seat_back : (asked : List Asking) (s : Stand) (c : ℕ) (v : Bool) → SeatOf (not v) asked s c → (v ≡ true → teardown_of s.site c ≡ None) → SeatOf true asked s c
seat_back asked s c true sits idle = Rests sits (idle refl)
seat_back asked s c false sits idle = sits

pub seated_loud : (asked : List Asking) (s : Stand) (a : ℕ) → is_busy s.site a ≡ false → SeatedAt (all_but a) asked s → SeatedAt all_told asked s
seated_loud asked s a idle all legal =
    let seated = all legal in
    let none : (c : ℕ) → (c == a) ≡ true → teardown_of s.site c ≡ None = λ c e.
    ⊎_elim
    (λ same. (let P : ℕ → Type 0 = λ v. teardown_of s.site v ≡ None in subst P (sym same.1) (idle_teardown s.site a idle)))
    (λ other. (let k : true ≡ false = sym e ∙ other.0 in absurd (cc)))
    (eqb_tells c a)
    in
    record { sits = λ c. seat_back asked s c (c == a) (seated.sits c) (none c); begun = seated.begun; teardowns = seated.teardowns }

-- Lines of actors.

begun_other : (s : Stand) (a n c : ℕ) → c ≢ a → begun_by (with_begun s a n) c ≡ begun_by s c
begun_other s a n c ne = ap (λ v. unwrap_or v 0) (slice_get-at_place_other s.begun a c (put_line n) ne)

line_put : (slot : Option ℕ) (n x : ℕ) → slot ≡ Some x → unwrap_or (option_map (put_line n) slot) 0 ≡ n
line_put slot n x e = ap (λ v. unwrap_or (option_map (put_line n) v) 0) e

begun_own : (s : Stand) (a n : ℕ) → a < length s.begun → begun_by (with_begun s a n) a ≡ n
begun_own s a n low = ap (λ v. unwrap_or v 0) (slice_get-at_place_same s.begun a (put_line n)) ∙ line_put (slice_get s.begun a) n (get_or s.begun a 0) (slice_get-get_or s.begun a 0 low)

begun_loud : (asked : List Asking) (s : Stand) (a n c : ℕ) (v : Bool) → (c == a) ≡ v → (v ≡ false → c ≢ a) → SeatOf (not v) asked s c → SeatOf (not v) asked (with_begun s a n) c
begun_loud asked s a n c true is ne sits = sits
begun_loud asked s a n c false is ne sits =
    let P : ℕ → Type 0 = λ v. Sits (filter (is_asked_by c) asked) (filter (replied_to c) s.replies) (calls_of s.site.history c) c v (teardown_of s.site c) in
    subst P (sym (begun_other s a n c (ne refl))) sits

-- the line that began what isn't told may be any
pub seated_begun : (asked : List Asking) (s : Stand) (a n : ℕ) → SeatedAt (all_but a) asked s → SeatedAt (all_but a) asked (with_begun s a n)
seated_begun asked s a n all legal =
    let seated = all legal in
    record {
      sits = λ c. begun_loud asked s a n c (c == a) refl (λ e same. (let k : (c == a) ≡ true = eq-eqb c a same in cc)) (seated.sits c);
      begun = length-at_place s.begun a (put_line n) ∙ seated.begun;
      teardowns = seated.teardowns;
    }

-- What begins.

module _ (asked : List Asking) (m : Telling) (s : Stand) (n a : ℕ) (what : Task) (told : is_told m ≡ true) (rest : SeatOf false asked s a) (idle : teardown_of s.site a ≡ None) where
  abbrev x : Asking
  x = record { line = n; actor = a; task = what }

  abbrev Own : Turned → Type 0
  Own t = Sits (filter (is_asked_by a) asked ++ x ∷ []) (filter (replied_to a) (s.replies ++ option_to_list (reply_by m n a t.heard.ends))) (calls_of t.site.history a) a n (teardown_of t.site a)

  own_call :
      (t : Turned) (b : Answer) (item : Item) → t.heard.ends ≡ Some (record { made = None; answer = b }) → calls_of t.site.history a ≡ calls_of s.site.history a ++ item ∷ [] → teardown_of t.site a ≡ teardown_of s.site a
      → IsAnswered what (record { line = n; actor = a; made = None; answer = b }) item → Own t
  own_call t b item ends items same is =
      let r : Reply = record { line = n; actor = a; made = None; answer = b } in
      sits_moved true (filter (is_asked_by a) asked ++ x ∷ []) (filter (replied_to a) s.replies ++ r ∷ []) _ (calls_of s.site.history a ++ item ∷ []) _ a n None _
      (told_reply m n a s.replies t.heard.ends (record { made = None; answer = b }) told ends) items (same ∙ idle)
      (Rests (Call (filter (is_asked_by a) asked) (filter (replied_to a) s.replies) (calls_of s.site.history a) x r item rest (record { line = refl; actor = refl }) is) refl)

  own_enter : (t : Turned) (f : ℕ) (q : Request) → what ≡ task.Calls f q → t.heard.ends ≡ None → calls_of t.site.history a ≡ calls_of s.site.history a ++ Calling f q None ∷ [] → teardown_of t.site a ≡ teardown_of s.site a → Own t
  own_enter t f q is ends items same =
      sits_moved true (filter (is_asked_by a) asked ++ x ∷ []) (filter (replied_to a) s.replies) _ (calls_of s.site.history a ++ Calling f q None ∷ []) _ a n None _
      (ap (filter (replied_to a)) (no_reply m n a s.replies t.heard.ends ends)) items (same ∙ idle)
      (InCall (filter (is_asked_by a) asked) x (calls_of s.site.history a) f q refl rest refl refl is refl refl)

  own_torn : (t : Turned) (b : Answer) → is_call what ≡ false → t.heard.ends ≡ Some (record { made = None; answer = b }) → calls_of t.site.history a ≡ calls_of s.site.history a → teardown_of t.site a ≡ None → Own t
  own_torn t b is ends items none =
      let r : Reply = record { line = n; actor = a; made = None; answer = b } in
      sits_moved true (filter (is_asked_by a) asked ++ x ∷ []) (filter (replied_to a) s.replies ++ r ∷ []) _ (calls_of s.site.history a) _ a n None _
      (told_reply m n a s.replies t.heard.ends (record { made = None; answer = b }) told ends) items none
      (Rests (Torn (filter (is_asked_by a) asked) (filter (replied_to a) s.replies) (calls_of s.site.history a) x r rest (record { line = refl; actor = refl }) is) refl)

  own_tears : (t : Turned) (td : Teardown) → is_call what ≡ false → t.heard.ends ≡ None → calls_of t.site.history a ≡ calls_of s.site.history a → teardown_of t.site a ≡ Some td → Own t
  own_tears t td is ends items some =
      sits_moved true (filter (is_asked_by a) asked ++ x ∷ []) (filter (replied_to a) s.replies) _ (calls_of s.site.history a) _ a n (Some td) _
      (ap (filter (replied_to a)) (no_reply m n a s.replies t.heard.ends ends)) items some
      (InTear (filter (is_asked_by a) asked) x refl rest refl refl is refl)

refused_is : (b : Answer) (e : Errno) → refusal_in b ≡ Some e → b ≡ answer.Refused e
refused_is answer.Ok e is = absurd (cc)
refused_is (answer.Made h i g) e is = absurd (cc)
refused_is (answer.State q i) e is = absurd (cc)
refused_is answer.Event e is = absurd (cc)
refused_is (answer.Kept k) e is = absurd (cc)
refused_is (answer.Refused e') e is = ap answer.Refused (let k : Some e' ≡ Some e = is in cc)

open_items : (h : List Entry) (a f d : ℕ) (b : Answer) → calls_of (h ++ entry.Open a f d b ∷ []) a ≡ calls_of h a ++ Opening f d b ∷ []
open_items h a f d b = calls_go_on h (entry.Open a f d b) a ∙ ap (λ v. if v then calls_of h a ++ Opening f d b ∷ [] else calls_of h a) (eq-eqb a a refl)

enter_items : (h : List Entry) (a f : ℕ) (q : Request) (b : Answer) → calls_of (h ++ entry.Enter a f q b ∷ []) a ≡ calls_of h a ++ Calling f q (early_answer (refusal_in b)) ∷ []
enter_items h a f q b = calls_go_on h (entry.Enter a f q b) a ∙ ap (λ v. if v then calls_of h a ++ Calling f q (early_answer (refusal_in b)) ∷ [] else calls_of h a) (eq-eqb a a refl)

enter_own :
    (asked : List Asking) (m : Telling) (s : Stand) (n a f : ℕ) (q : Request) (told : is_told m ≡ true) (rest : SeatOf false asked s a) (idle : teardown_of s.site a ≡ None) (b : Answer) (e : Option Errno) → refusal_in b ≡ e
    → Own asked m s n a (task.Calls f q) told rest idle (record { site = with_entry s.site (entry.Enter a f q b); heard = entered b (refusal_in b) })
enter_own asked m s n a f q told rest idle b None is =
    own_enter asked m s n a (task.Calls f q) told rest idle (record { site = with_entry s.site (entry.Enter a f q b); heard = entered b (refusal_in b) }) f q refl (ap (λ v. (entered b v).ends) is)
    (enter_items s.site.history a f q b ∙ ap (λ v. calls_of s.site.history a ++ Calling f q (early_answer v) ∷ []) is) refl
enter_own asked m s n a f q told rest idle b (Some e) is =
    own_call asked m s n a (task.Calls f q) told rest idle (record { site = with_entry s.site (entry.Enter a f q b); heard = entered b (refusal_in b) }) b (Calling f q (Some b)) (ap (λ v. (entered b v).ends) is)
    (enter_items s.site.history a f q b ∙ ap (λ v. calls_of s.site.history a ++ Calling f q (early_answer v) ∷ []) is ∙ ap (λ v. calls_of s.site.history a ++ Calling f q (Some v) ∷ []) (sym (refused_is b e is))) refl (refl, refl, refl)

entry_apart : (s : Site) (a : ℕ) (e : Entry) (t : Turned) → t.site ≡ with_entry s e → ((c : ℕ) (items : List Item) → c ≢ a → calls_with c items e ≡ items) → Apart s a t
entry_apart s a e t is quiet = record {
  more = e ∷ [];
  is = ap (λ (v : Site). v.history) is;
  calls = λ c ne. ap (λ (v : Site). calls_of v.history c) is ∙ calls_go_on s.history e c ∙ quiet c (calls_of s.history c) ne;
  others = λ c ne. ap (λ (v : Site). teardown_of v c) is;
  size = ap (λ (v : Site). length v.teardowns) is;
}

if_other : (v : Bool) (xs ys : List Item) → v ≡ false → (if v then xs else ys) ≡ ys
if_other true xs ys e = absurd (cc)
if_other false xs ys e = refl

close_apart : (s : Site) (a f : ℕ) → Apart s a (closes s a f)
close_apart s a f =
    let u = with_teardown s a (Some (Closing f)) in
    let T = close_shape u a f (phase_of (state_at u) f) in
    record {
      more = T.more;
      is = T.is;
      calls = λ c ne. T.calls c;
      others = λ c ne. T.others c ne ∙ slot_other s.teardowns a c (Some (Closing f)) ne;
      size = T.size ∙ length-at_place s.teardowns a (put_slot (Some (Closing f)));
    }

close_calls : (s : Site) (a f c : ℕ) → calls_of (closes s a f).site.history c ≡ calls_of s.history c
close_calls s a f c = (close_shape (with_teardown s a (Some (Closing f))) a f (phase_of (state_at s) f)).calls c

apart_if : (s : Site) (a : ℕ) (v : Bool) (x y : Turned) → Apart s a x → Apart s a y → Apart s a (if v then x else y)
apart_if s a true x y p q = p
apart_if s a false x y p q = q

unplug_apart : (s : Site) (a d : ℕ) → Apart s a (unplugs s a d)
unplug_apart s a d =
    apart_if s a (is_unplugged (state_at s) d) _ _ (record { more = []; is = sym (append-nil s.history); calls = λ c ne. refl; others = λ c ne. refl; size = refl })
    (record {
      more = entry.Unplug d ∷ [];
      is = refl;
      calls = λ c ne. calls_go_on s.history (entry.Unplug d) c;
      others = λ c ne. slot_other s.teardowns a c (Some (Unplugging d)) ne;
      size = length-at_place s.teardowns a (put_slot (Some (Unplugging d)));
    })

begins_apart : (s : Site) (a : ℕ) (what : Task) (t : Turned) → Begins s a what t → Apart s a t
begins_apart s a (task.Opens f d) t p = entry_apart s a (entry.Open a f d p.answer) t (ap (λ (v : Turned). v.site) p.turned) (λ c items ne. if_other (a == c) _ _ (ne_eqb a c (λ e. ne (sym e))))
begins_apart s a (task.Calls f q) t p = entry_apart s a (entry.Enter a f q p.answer) t (ap (λ (v : Turned). v.site) p.turned) (λ c items ne. if_other (a == c) _ _ (ne_eqb a c (λ e. ne (sym e))))
begins_apart s a (task.Closes f) t p = subst (Apart s a) (sym p) (close_apart s a f)
begins_apart s a (task.Unplugs d) t p = subst (Apart s a) (sym p) (unplug_apart s a d)

module _ (asked : List Asking) (m : Telling) (s : Stand) (n a : ℕ) (told : is_told m ≡ true) (rest : SeatOf false asked s a) (idle : teardown_of s.site a ≡ None) (low : a < length s.site.teardowns) where
  closes_own : (f : ℕ) (t : Turned) → Tearing (with_teardown s.site a (Some (Closing f))) a t → Own asked m s n a (task.Closes f) told rest idle (begun t)
  closes_own f t T =
      let put : teardown_of (with_teardown s.site a (Some (Closing f))) a ≡ Some (Closing f) = put_there s.site.teardowns a (Some (Closing f)) low in
      ⊎_elim
      (λ own. own_tears asked m s n a (task.Closes f) told rest idle (begun t) (Closing f) refl own.0 (T.calls a) (own.1 ∙ put))
      (λ (over : Over a t). own_torn asked m s n a (task.Closes f) told rest idle (begun t) over.answer refl over.ends (T.calls a) over.none)
      T.own

  unplugs_own : (d : ℕ) (v : Bool) → Own asked m s n a (task.Unplugs d) told rest idle
      (if v then record { site = s.site; heard = ends_with event.Silent (answer.Refused Io) } else record { site = with_teardown (with_entry s.site (entry.Unplug d)) a (Some (Unplugging d)); heard = goes_on event.Began })
  unplugs_own d true = own_torn asked m s n a (task.Unplugs d) told rest idle (record { site = s.site; heard = ends_with event.Silent (answer.Refused Io) }) (answer.Refused Io) refl refl refl idle
  unplugs_own d false =
      own_tears asked m s n a (task.Unplugs d) told rest idle (record { site = with_teardown (with_entry s.site (entry.Unplug d)) a (Some (Unplugging d)); heard = goes_on event.Began }) (Unplugging d) refl refl
      (calls_go_on s.site.history (entry.Unplug d) a) (put_there s.site.teardowns a (Some (Unplugging d)) low)

  begins_own : (what : Task) (t : Turned) → Begins s.site a what t → Own asked m s n a what told rest idle t
  begins_own (task.Opens f d) t p =
      let t0 : Turned = record { site = with_entry s.site (entry.Open a f d p.answer); heard = ends_with event.Silent p.answer } in
      subst (Own asked m s n a (task.Opens f d) told rest idle) (sym p.turned)
      (own_call asked m s n a (task.Opens f d) told rest idle t0 p.answer (Opening f d p.answer) refl (open_items s.site.history a f d p.answer) refl (refl, refl, refl))
  begins_own (task.Calls f q) t p = subst (Own asked m s n a (task.Calls f q) told rest idle) (sym p.turned) (enter_own asked m s n a f q told rest idle p.answer (refusal_in p.answer) refl)
  begins_own (task.Closes f) t p =
      let u = with_teardown s.site a (Some (Closing f)) in
      subst (Own asked m s n a (task.Closes f) told rest idle) (sym p) (closes_own f (close_turn u a f (phase_of (state_at s.site) f)) (close_shape u a f (phase_of (state_at s.site) f)))
  begins_own (task.Unplugs d) t p = subst (Own asked m s n a (task.Unplugs d) told rest idle) (sym p) (unplugs_own d (is_unplugged (state_at s.site) d))

pub begins_seated :
    (asked : List Asking) (m : Telling) (s : Stand) (n a : ℕ) (what : Task) (t : Turned) → is_told m ≡ true → a < ACTOR_PLACES → Begins s.site a what t → is_busy s.site a ≡ false → SeatedAt all_told asked s
    → SeatedAt all_told (asked ++ record { line = n; actor = a; task = what } ∷ []) (after_turned m (with_begun s a n) a n t)
begins_seated asked m s n a what t told low begins idle all legal =
    let apart = begins_apart s.site a what t begins in
    let before = legal_front s.site.history _ apart.more apart.is legal in
    let seated = all before in
    let x : Asking = record { line = n; actor = a; task = what } in
    let s' : Stand = after_turned m (with_begun s a n) a n t in
    let own = begins_own asked m s n a told (seat_rests asked s a before idle (seated.sits a)) (idle_teardown s.site a idle) (subst (λ v. a < v) (sym seated.teardowns) low) what t begins in
    let A : List Asking → Type 0 = λ v. Sits v (filter (replied_to a) s'.replies) (calls_of t.site.history a) a n (teardown_of t.site a) in
    let N : ℕ → Type 0 = λ v. Sits (filter (is_asked_by a) (asked ++ x ∷ [])) (filter (replied_to a) s'.replies) (calls_of t.site.history a) a v (teardown_of t.site a) in
    let line : begun_by s' a ≡ n = begun_own s a n (subst (λ v. a < v) (sym seated.begun) low) in
    let here : SeatOf true (asked ++ x ∷ []) s' a = subst N (sym line) (subst A (sym (asked_own asked x)) own) in
    record {
      sits = λ c.
          ⊎_elim
          (λ same. (let P : ℕ → Type 0 = λ v. SeatOf true (asked ++ x ∷ []) s' v in subst P (sym same.1) here))
          (λ other. (let B : List Asking → Type 0 = λ v. Sits v (filter (replied_to c) s'.replies) (calls_of t.site.history c) c (begun_by s' c) (teardown_of t.site c) in
          let M : ℕ → Type 0 = λ v. Sits (filter (is_asked_by c) asked) (filter (replied_to c) s'.replies) (calls_of t.site.history c) c v (teardown_of t.site c) in
          subst B (sym (asked_other asked x c other.1)) (subst M (sym (begun_other s a n c other.1))
          (sits_moved true (filter (is_asked_by c) asked) (filter (replied_to c) s.replies) _ (calls_of s.site.history c) _ c (begun_by s c) (teardown_of s.site c) _ (other_reply m n a c s.replies t.heard.ends other.1) (apart.calls c other.1) (apart.others c other.1) (seated.sits c)))))
          (eqb_tells c a);
      begun = length-at_place s.begun a (put_line n) ∙ seated.begun;
      teardowns = apart.size ∙ seated.teardowns;
    }

-- A close that isn't told.

pub close_quiet : (asked : List Asking) (m : Telling) (s : Stand) (a n f : ℕ) → is_told m ≡ false → SeatedAt (all_but a) asked s → SeatedAt (all_but a) asked (after_turned m s a n (closes s.site a f))
close_quiet asked m s a n f is all legal =
    let apart = close_apart s.site a f in
    let before = legal_front s.site.history _ apart.more apart.is legal in
    let seated = all before in
    let here : all_but a a ≡ false = ap not (eq-eqb a a refl) in
    let B : Bool → Type 0 = λ v. SeatOf v asked s a in
    let C : Bool → Type 0 = λ v. SeatOf v asked (after_turned m s a n (closes s.site a f)) a in
    seated_after (all_but a) asked m s a n (closes s.site a f) apart (subst C (sym here) (torn_untold asked m s a n (closes s.site a f) is (close_calls s.site a f a) (subst B here (seated.sits a)))) seated
