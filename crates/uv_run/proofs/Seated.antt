-- What actors asked for, with their replies and calls, through the events of a run.
use Rattle.std.proofs.Common.{◌≡◌, ℕ, zero, suc, ◌+◌, Bool, true, false, List, [], ◌∷◌, ◌++◌, Option, Some, None, length, refl, ap, sym, ◌∙◌, subst, inl, inr, append-nil, filter, ⊎_elim}
use Rattle.std.specs.Prelude.{◌≢◌, ◌⊎◌, ◌==◌, ◌||◌, not, option_to_list, if◌then◌else◌}
use Rattle.std.proofs.lemmas.Bool.{eq-eqb, ne_eqb}
use Rattle.std.proofs.lemmas.Bool.Decides.{eqb_tells}
use Rattle.uv_num.specs.declared.limits.TheConstants.{ACTORS, ACTOR_PLACES}
use Rattle.uv_num.specs.declared.qp.QpState.{QpState}
use Rattle.uv_machine.specs.declared.call.InFlight.{InFlight}
use Rattle.uv_machine.specs.declared.entry.Answer.{Answer}
use Rattle.uv_machine.specs.declared.entry.CallStep.{CallStep}
use Rattle.uv_machine.specs.declared.entry.Entry.{Entry}
use Rattle.uv_machine.specs.declared.entry.Word.{Word}
use Rattle.uv_machine.specs.declared.entry.Word.TheVariants.{Reserve, Look, Make, Commit, Act, Lock, Check, Finish, Abort, Free, Exit}
use Rattle.uv_machine.specs.declared.state.State.{State}
use Rattle.uv_machine.specs.Calls.{Item, answered, at_exit, calls_of, unanswered}
use Rattle.uv_machine.specs.Histories.{IsLegal, IsLegalFrom, after}
use Rattle.uv_machine.specs.States.{call_of, start}
use Rattle.uv_machine.specs.Steps.{next_from, next_of}
use Rattle.uv_machine.proofs.Clients.{calls_go_on}
use Rattle.uv_graph.specs.Turns.{is_exit, step_entry}
use Rattle.uv_run.specs.declared.flight.Teardown.{Teardown}
use Rattle.uv_run.specs.declared.heard.Ended.{Ended}
use Rattle.uv_run.specs.declared.heard.Heard.{Heard}
use Rattle.uv_run.specs.declared.reply.Reply.{Reply}
use Rattle.uv_run.specs.declared.reply.Telling.{Telling}
use Rattle.uv_run.specs.declared.reply.Telling.TheVariants as telling
use Rattle.uv_run.specs.Asking.{Asking}
use Rattle.uv_run.specs.Follows.{is_asked_by, replied_to}
use Rattle.uv_run.specs.Site.{Site, Turned, call_turn, event_of, found_of, kept_at, kind_in_call, state_at, step_heard, teardown_of, teardown_turn, turn_by}
use Rattle.uv_run.specs.Stand.{Stand, after_turned, begun_by, ended_reply, reply_by}
use Rattle.uv_run.specs.Turns.{RunsOut, after_event, awaited, is_on, one_turn, others_if, others_of, turns_of}
use Rattle.uv_run.proofs.Determined.{is_told}
use Rattle.uv_run.proofs.Shapes.{Over, Tearing, teardown_shape}
use Rattle.uv_run.proofs.Sitting.{Sits, SitsBy, answered_closed, idle_items, replied_other, replied_own, sits_exit, sits_moved, sits_over}

-- Legal histories.

legal_from : (m : State) (h more : List Entry) → IsLegalFrom m (h ++ more) → IsLegalFrom m h
legal_from m [] more legal = tt
legal_from m (e ∷ h) more legal = (legal.0, legal_from (after m e) h more legal.1)

pub legal_front : (h h' more : List Entry) → h' ≡ h ++ more → IsLegal h' → IsLegal h
legal_front h h' more is legal = legal_from start h more (subst IsLegal is legal)

-- Replies.

reply_none : (m : Telling) (n a : ℕ) (rs : List Reply) → rs ++ option_to_list (reply_by m n a None) ≡ rs
reply_none (telling.Plus line) n a rs = append-nil rs
reply_none telling.ToEnd n a rs = append-nil rs
reply_none telling.Dying n a rs = append-nil rs
reply_none telling.Ending n a rs = append-nil rs

pub no_reply : (m : Telling) (n a : ℕ) (rs : List Reply) (x : Option Ended) → x ≡ None → rs ++ option_to_list (reply_by m n a x) ≡ rs
no_reply m n a rs x e = ap (λ v. rs ++ option_to_list (reply_by m n a v)) e ∙ reply_none m n a rs

pub untold : (m : Telling) (n a : ℕ) (rs : List Reply) (x : Option Ended) → is_told m ≡ false → rs ++ option_to_list (reply_by m n a x) ≡ rs
untold (telling.Plus line) n a rs x is = absurd (cc)
untold telling.ToEnd n a rs x is = absurd (cc)
untold telling.Dying n a rs x is = append-nil rs
untold telling.Ending n a rs x is = append-nil rs

told_some : (m : Telling) (n a : ℕ) (rs : List Reply) (e : Ended) → is_told m ≡ true → rs ++ option_to_list (reply_by m n a (Some e)) ≡ rs ++ record { line = n; actor = a; made = e.made; answer = e.answer } ∷ []
told_some (telling.Plus line) n a rs e is = refl
told_some telling.ToEnd n a rs e is = refl
told_some telling.Dying n a rs e is = absurd (cc)
told_some telling.Ending n a rs e is = absurd (cc)

pub told_reply : (m : Telling) (n a : ℕ) (rs : List Reply) (x : Option Ended) (e : Ended) → is_told m ≡ true → x ≡ Some e → filter (replied_to a) (rs ++ option_to_list (reply_by m n a x)) ≡ filter (replied_to a) rs ++ record { line = n; actor = a; made = e.made; answer = e.answer } ∷ []
told_reply m n a rs x e is same =
    ap (λ v. filter (replied_to a) (rs ++ option_to_list (reply_by m n a v))) same ∙ ap (filter (replied_to a)) (told_some m n a rs e is)
    ∙ replied_own rs (record { line = n; actor = a; made = e.made; answer = e.answer })

other_ended : (n a c : ℕ) (rs : List Reply) (x : Option Ended) → c ≢ a → filter (replied_to c) (rs ++ option_to_list (ended_reply n a x)) ≡ filter (replied_to c) rs
other_ended n a c rs None ne = ap (filter (replied_to c)) (append-nil rs)
other_ended n a c rs (Some e) ne = replied_other rs (record { line = n; actor = a; made = e.made; answer = e.answer }) c ne

pub other_reply : (m : Telling) (n a c : ℕ) (rs : List Reply) (x : Option Ended) → c ≢ a → filter (replied_to c) (rs ++ option_to_list (reply_by m n a x)) ≡ filter (replied_to c) rs
other_reply (telling.Plus line) n a c rs x ne = other_ended n a c rs x ne
other_reply telling.ToEnd n a c rs x ne = other_ended n a c rs x ne
other_reply telling.Dying n a c rs x ne = ap (filter (replied_to c)) (append-nil rs)
other_reply telling.Ending n a c rs x ne = ap (filter (replied_to c)) (append-nil rs)

-- All actors.

abbrev pub SeatOf : Bool → List Asking → Stand → ℕ → Type 0
SeatOf b asked s c = SitsBy b (filter (is_asked_by c) asked) (filter (replied_to c) s.replies) (calls_of s.site.history c) c (begun_by s c) (teardown_of s.site c)

pub record Seated (U : ℕ → Bool) (asked : List Asking) (s : Stand) : Type 0 where
  pub sits : (c : ℕ) → SeatOf (U c) asked s c
  pub begun : length s.begun ≡ ACTOR_PLACES
  pub teardowns : length s.site.teardowns ≡ ACTOR_PLACES

-- so it is where the history is legal
abbrev pub SeatedAt : (ℕ → Bool) → List Asking → Stand → Type 0
SeatedAt U asked s = IsLegal s.site.history → Seated U asked s

-- what an event of one actor leaves of the others
pub record Apart (s : Site) (a : ℕ) (t : Turned) : Type 0 where
  pub more : List Entry
  pub is : t.site.history ≡ s.history ++ more
  pub calls : (c : ℕ) → c ≢ a → calls_of t.site.history c ≡ calls_of s.history c
  pub others : (c : ℕ) → c ≢ a → teardown_of t.site c ≡ teardown_of s c
  pub size : length t.site.teardowns ≡ length s.teardowns

pub tearing_apart : (s : Site) (a : ℕ) (t : Turned) → Tearing s a t → Apart s a t
tearing_apart s a t T = record { more = T.more; is = T.is; calls = λ c ne. T.calls c; others = T.others; size = T.size }

pub seated_after : (U : ℕ → Bool) (asked : List Asking) (m : Telling) (s : Stand) (a n : ℕ) (t : Turned) → Apart s.site a t → SeatOf (U a) asked (after_turned m s a n t) a → Seated U asked s → Seated U asked (after_turned m s a n t)
seated_after U asked m s a n t apart own all = record {
  sits = λ c.
      ⊎_elim
      (λ same. (let P : ℕ → Type 0 = λ v. SeatOf (U v) asked (after_turned m s a n t) v in subst P (sym same.1) own))
      (λ other. sits_moved (U c) (filter (is_asked_by c) asked) (filter (replied_to c) s.replies) _ (calls_of s.site.history c) _ c (begun_by s c) (teardown_of s.site c) _ (other_reply m n a c s.replies t.heard.ends other.1) (apart.calls c other.1) (apart.others c other.1) (all.sits c))
      (eqb_tells c a);
  begun = all.begun;
  teardowns = apart.size ∙ all.teardowns;
}

-- An event of a teardown.

over_not : (a : ℕ) (t : Turned) → Over a t → t.heard.ends ≡ None → ⊥
over_not a t over none = let k : Some _ ≡ None = sym over.ends ∙ none in absurd (cc)

torn_by_sum :
    (asked : List Asking) (m : Telling) (s : Stand) (a : ℕ) (t : Turned) (x : Option Teardown) → is_told m ≡ true → ((c : ℕ) → calls_of t.site.history c ≡ calls_of s.site.history c) → teardown_of s.site a ≡ x
    → (x ≡ None → t.heard.ends ≡ None) → ((t.heard.ends ≡ None) × (teardown_of t.site a ≡ teardown_of s.site a)) ⊎ Over a t → SeatOf true asked s a → SeatOf true asked (after_turned m s a (begun_by s a) t) a
torn_by_sum asked m s a t x is calls now quiet (inl own) sits =
    sits_moved true (filter (is_asked_by a) asked) (filter (replied_to a) s.replies) _ (calls_of s.site.history a) _ a (begun_by s a) (teardown_of s.site a) _
    (ap (filter (replied_to a)) (no_reply m (begun_by s a) a s.replies t.heard.ends own.0)) (calls a) own.1 sits
torn_by_sum asked m s a t None is calls now quiet (inr over) sits = absurd (over_not a t over (quiet refl))
torn_by_sum asked m s a t (Some td) is calls now quiet (inr over) sits =
    let P : Option Teardown → Type 0 = λ v. Sits (filter (is_asked_by a) asked) (filter (replied_to a) s.replies) (calls_of s.site.history a) a (begun_by s a) v in
    sits_moved true (filter (is_asked_by a) asked) _ _ (calls_of s.site.history a) _ a (begun_by s a) None _
    (told_reply m (begun_by s a) a s.replies t.heard.ends (record { made = None; answer = over.answer }) is over.ends) (calls a) over.none
    (sits_over (filter (is_asked_by a) asked) (filter (replied_to a) s.replies) (calls_of s.site.history a) a (begun_by s a) td over.answer (subst P now sits))

-- nothing is told of one whose close isn't told
pub torn_untold :
    (asked : List Asking) (m : Telling) (s : Stand) (a n : ℕ) (t : Turned) → is_told m ≡ false → calls_of t.site.history a ≡ calls_of s.site.history a → SeatOf false asked s a → SeatOf false asked (after_turned m s a n t) a
torn_untold asked m s a n t is calls sits =
    sits_moved false (filter (is_asked_by a) asked) (filter (replied_to a) s.replies) _ (calls_of s.site.history a) _ a n None None
    (ap (filter (replied_to a)) (untold m n a s.replies t.heard.ends is)) calls refl sits

-- A step of a call.

step_apart : (s : Site) (a : ℕ) (d : CallStep) → Apart s a (call_turn s a d)
step_apart s a d = record {
  more = step_entry a d ∷ [];
  is = refl;
  calls = λ c ne. calls_go_on s.history (step_entry a d) c ∙ ap (λ v. if v then at_exit d.word d.answer (calls_of s.history c) else calls_of s.history c) (ne_eqb a c (λ e. ne (sym e)));
  others = λ c ne. refl;
  size = refl;
}

own_items : (s : Site) (a : ℕ) (d : CallStep) → calls_of (call_turn s a d).site.history a ≡ at_exit d.word d.answer (calls_of s.history a)
own_items s a d = calls_go_on s.history (step_entry a d) a ∙ ap (λ v. if v then at_exit d.word d.answer (calls_of s.history a) else calls_of s.history a) (eq-eqb a a refl)

-- what a word does to the calls
pub record GoesOn (w : Word) : Type 0 where
  pub on : is_exit w ≡ false
  pub same : (x : Answer) (items : List Item) → at_exit w x items ≡ items

pub record IsEnd (w : Word) : Type 0 where
  pub on : is_exit w ≡ true
  pub now : (x : Answer) (items : List Item) → at_exit w x items ≡ answered x items

word_cases : (w : Word) → GoesOn w ⊎ IsEnd w
word_cases Reserve = inl (record { on = refl; same = λ x items. refl })
word_cases Look = inl (record { on = refl; same = λ x items. refl })
word_cases Make = inl (record { on = refl; same = λ x items. refl })
word_cases Commit = inl (record { on = refl; same = λ x items. refl })
word_cases Act = inl (record { on = refl; same = λ x items. refl })
word_cases Lock = inl (record { on = refl; same = λ x items. refl })
word_cases Check = inl (record { on = refl; same = λ x items. refl })
word_cases Finish = inl (record { on = refl; same = λ x items. refl })
word_cases Abort = inl (record { on = refl; same = λ x items. refl })
word_cases Free = inl (record { on = refl; same = λ x items. refl })
word_cases Exit = inr (record { on = refl; now = λ x items. refl })

heard_if : (v : Bool) (x y : Heard) → v ≡ true → (if v then x else y) ≡ x
heard_if true x y e = refl
heard_if false x y e = absurd (cc)

heard_else : (v : Bool) (x y : Heard) → v ≡ false → (if v then x else y) ≡ y
heard_else true x y e = absurd (cc)
heard_else false x y e = refl

step_sum :
    (asked : List Asking) (m : Telling) (s : Stand) (a : ℕ) (d : CallStep) → is_told m ≡ true → unanswered (calls_of s.site.history a) ≢ [] → GoesOn d.word ⊎ IsEnd d.word → SeatOf true asked s a
    → SeatOf true asked (after_turned m s a (begun_by s a) (call_turn s.site a d)) a
step_sum asked m s a d is unended (inl on) sits =
    let none : (step_heard (kind_in_call (call_of (state_at s.site) a)) d).ends ≡ None = ap (λ (h : Heard). h.ends) (heard_else (is_exit d.word) _ _ on.on) in
    sits_moved true (filter (is_asked_by a) asked) (filter (replied_to a) s.replies) _ (calls_of s.site.history a) _ a (begun_by s a) (teardown_of s.site a) (teardown_of s.site a)
    (ap (filter (replied_to a)) (no_reply m (begun_by s a) a s.replies (call_turn s.site a d).heard.ends none)) (own_items s.site a d ∙ on.same d.answer (calls_of s.site.history a)) refl sits
step_sum asked m s a d is unended (inr end) sits =
    let made = kind_in_call (call_of (state_at s.site) a) in
    let some : (step_heard made d).ends ≡ Some (record { made = made; answer = d.answer }) = ap (λ (h : Heard). h.ends) (heard_if (is_exit d.word) _ _ end.on) in
    sits_moved true (filter (is_asked_by a) asked) _ _ (answered d.answer (calls_of s.site.history a)) _ a (begun_by s a) (teardown_of s.site a) (teardown_of s.site a)
    (told_reply m (begun_by s a) a s.replies (call_turn s.site a d).heard.ends (record { made = made; answer = d.answer }) is some) (own_items s.site a d ∙ end.now d.answer (calls_of s.site.history a)) refl
    (sits_exit (filter (is_asked_by a) asked) (filter (replied_to a) s.replies) (calls_of s.site.history a) a (begun_by s a) (teardown_of s.site a) made d.answer sits unended)

-- An event.

next_none : (m : State) (c : ℕ) (found : Option QpState) (kept : ℕ) (d : CallStep) (slot : Option InFlight) → slot ≡ None → next_from m c found kept slot ≡ Some d → ⊥
next_none m c found kept d None e is = cc
next_none m c found kept d (Some call) e is = cc

has_call : (s : Site) (a : ℕ) (d : CallStep) → IsLegal s.history → next_of (state_at s) a (found_of s a) (kept_at s a) ≡ Some d → unanswered (calls_of s.history a) ≢ []
has_call s a d legal is none = next_none (state_at s) a (found_of s a) (kept_at s a) d (call_of (state_at s) a) (idle_items s.history a legal none) is

own_turn :
    (b : Bool) (asked : List Asking) (m : Telling) (s : Stand) (a : ℕ) (d : Option CallStep) → b ≡ is_told m → IsLegal s.site.history → next_of (state_at s.site) a (found_of s.site a) (kept_at s.site a) ≡ d → SeatOf b asked s a
    → SeatOf b asked (after_turned m s a (begun_by s a) (turn_by s.site a d)) a
own_turn true asked m s a None is legal next sits =
    let T = teardown_shape s.site a (teardown_of s.site a) in
    let quiet : (x : Option Teardown) → x ≡ None → (teardown_turn s.site a x).heard.ends ≡ None = λ x e. ap (λ (v : Option Teardown). (teardown_turn s.site a v).heard.ends) e in
    torn_by_sum asked m s a (teardown_turn s.site a (teardown_of s.site a)) (teardown_of s.site a) (sym is) T.calls refl (quiet (teardown_of s.site a)) T.own sits
own_turn true asked m s a (Some d) is legal next sits = step_sum asked m s a d (sym is) (has_call s.site a d legal next) (word_cases d.word) sits
own_turn false asked m s a None is legal next sits =
    torn_untold asked m s a (begun_by s a) (teardown_turn s.site a (teardown_of s.site a)) (sym is) ((teardown_shape s.site a (teardown_of s.site a)).calls a) sits
own_turn false asked m s a (Some d) is legal next sits = absurd (has_call s.site a d legal next (answered_closed _ _ _ sits))

turn_apart : (s : Site) (a : ℕ) (d : Option CallStep) → Apart s a (turn_by s a d)
turn_apart s a None = tearing_apart s a (teardown_turn s a (teardown_of s a)) (teardown_shape s a (teardown_of s a))
turn_apart s a (Some d) = step_apart s a d

pub event_seated : (U : ℕ → Bool) (asked : List Asking) (m : Telling) (s : Stand) (a : ℕ) → U a ≡ is_told m → SeatedAt U asked s → SeatedAt U asked (after_event m s a)
unfolding event_of
event_seated U asked m s a is all legal =
    let next = next_of (state_at s.site) a (found_of s.site a) (kept_at s.site a) in
    let apart = turn_apart s.site a next in
    let before = legal_front s.site.history _ apart.more apart.is legal in
    let seated = all before in
    seated_after U asked m s a (begun_by s a) (turn_by s.site a next) apart (own_turn (U a) asked m s a next is before refl (seated.sits a)) seated

-- A run to the end.

module _ (U : ℕ → Bool) (asked : List Asking) (a : ℕ) (usual : (b : ℕ) → b ≢ a → U b ≡ true) where
  seated_if : (v w : Bool) (s t : Stand) → SeatedAt U asked s → (v ≡ false → SeatedAt U asked t) → SeatedAt U asked (if v || w then s else t)
  seated_if true w s t p q = p
  seated_if false true s t p q = p
  seated_if false false s t p q = q refl

  not_same : (b : ℕ) → (b == a) ≡ false → b ≢ a
  not_same b e same = let k : (b == a) ≡ true = eq-eqb b a same in cc

  others_seated : (n : ℕ) (s : Stand) (f : ℕ) → SeatedAt U asked s → SeatedAt U asked (others_of n s a f)
  unfolding others_of
  others_seated zero s f all = all
  others_seated (suc n) s f all =
      let t : Stand = others_of n s a f in
      let before = others_seated n s f all in
      seated_if (n + 1 == a) (not (is_on t.site f (n + 1))) t (after_event telling.ToEnd t (n + 1)) before (λ e. event_seated U asked telling.ToEnd t (n + 1) (usual (n + 1) (not_same (n + 1) e)) before)

  pub waiting_seated : (x : Option ℕ) (s : Stand) → SeatedAt U asked s → SeatedAt U asked (others_if x a s)
  waiting_seated None s all = all
  waiting_seated (Some f) s all = others_seated ACTORS s f all

  module _ (m : Telling) (is : U a ≡ is_told m) where
    turns_seated : (n : ℕ) (s : Stand) → SeatedAt U asked s → SeatedAt U asked (turns_of n m s a)
    unfolding turns_of one_turn
    turns_seated zero s all = all
    turns_seated (suc n) s all =
        let t : Stand = turns_of n m s a in
        waiting_seated (awaited (event_of t.site a).heard.event) (after_event m t a) (event_seated U asked m t a is (turns_seated n s all))

    pub out_seated : (s s' : Stand) → RunsOut m s a s' → SeatedAt U asked s → SeatedAt U asked s'
    out_seated s s' runs all = (let P : Stand → Type 0 = λ v. SeatedAt U asked v in subst P (sym runs.made) (turns_seated runs.count s all))
