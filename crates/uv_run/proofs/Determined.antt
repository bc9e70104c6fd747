-- Where no text is ENOMEM, the lines of a script determine the record of their run.
use Rattle.std.proofs.Common.{◌≡◌, ℕ, Bool, true, false, List, [], ◌∷◌, ◌++◌, Option, Some, None, Ok, Err, map, refl, ap, sym, ◌∙◌, subst, inl, inr, append-nil, append_assoc}
use Rattle.std.specs.Prelude.{◌≢◌, Result}
use Rattle.uv_num.specs.declared.errno.Errno.{Errno}
use Rattle.uv_num.specs.declared.errno.Errno.TheVariants.{NoMem}
use Rattle.uv_num.specs.declared.limits.TheConstants.{ENDER}
use Rattle.uv_machine.specs.declared.entry.Answer.{Answer}
use Rattle.uv_machine.specs.declared.entry.Answer.TheVariants as answer
use Rattle.uv_machine.specs.declared.entry.Entry.{Entry}
use Rattle.uv_machine.specs.declared.entry.Entry.TheVariants as entry
use Rattle.uv_machine.specs.Effects.{refusal_in}
use Rattle.uv_machine.specs.Outside.{MayAnswer, enter_refusal, open_refusal}
use Rattle.uv_model.specs.declared.left.Left.{Left}
use Rattle.uv_model.specs.Standing.{all_left}
use Rattle.uv_report.specs.declared.record.Record.{Record}
use Rattle.uv_report.specs.declared.record.Said.{Said}
use Rattle.uv_report.specs.declared.saying.Saying.{Saying}
use Rattle.uv_report.specs.declared.saying.Saying.TheVariants as saying
use Rattle.uv_script.specs.declared.form.Form.{Form}
use Rattle.uv_script.specs.declared.form.Form.TheVariants as form
use Rattle.uv_script.specs.declared.form.Line.{Line}
use Rattle.uv_run.specs.declared.flight.Task.{Task}
use Rattle.uv_run.specs.declared.flight.Task.TheVariants as task
use Rattle.uv_num.specs.declared.request.Request.{Request}
use Rattle.uv_run.specs.declared.heard.Event.TheVariants as event
use Rattle.uv_run.specs.declared.reply.Telling.{Telling}
use Rattle.uv_run.specs.declared.reply.Telling.TheVariants as telling
use Rattle.uv_run.specs.Asking.{Asking, asking_of, task_of}
use Rattle.uv_run.specs.Chains.{Chain}
use Rattle.uv_run.specs.DataPath.{Shown, after_shown, data_played, said_under}
use Rattle.uv_run.specs.Follows.{ClosesEnd, EndsFile, FollowsScript, all_actors}
use Rattle.uv_run.specs.Laws.{HadMemory, RecordIsTold}
use Rattle.uv_run.specs.Lines.{BeginsLine, BeginsTask, ClosesIf, ClosesOwn, PlaysForm, PlaysNext, RunsTask, Told, all_files}
use Rattle.uv_run.specs.Site.{Begins, EntersCall, OpensFile, Site, Turned, closes, ends_with, entered, state_at, with_entry}
use Rattle.uv_run.specs.Stand.{Stand, after_turned, event_said, reply_by, reply_text, said_if, saying_for, with_begun, with_said}
use Rattle.uv_run.specs.Turns.{RunsOut, after_waiting, awaited, others_if}
use Rattle.uv_run.proofs.ChainLaws.{Chain-once}
use Rattle.uv_run.proofs.Continuing.{Continues}
use Rattle.uv_run.proofs.Keeping.{kept_ends, kept_finish, kept_lines, kept_out, kept_waiting}
use Rattle.uv_run.proofs.Once.{RunsOut-once}

-- What is told grows.

pub record Grows (first : List Said) (s : Stand) : Type 0 where
  pub more : List Said
  pub is : s.said ≡ first ++ more

grows_by : (first : List Said) (s t : Stand) (more : List Said) → t.said ≡ s.said ++ more → Grows first s → Grows first t
grows_by first s t more e g = record { more = g.more ++ more; is = e ∙ ap (λ v. v ++ more) g.is ∙ append_assoc first g.more more }

grows_turned : (first : List Said) (m : Telling) (s : Stand) (a n : ℕ) (t : Turned) → Continues s.site t → Grows first s → Grows first (after_turned m s a n t)
grows_turned first m s a n t continues g =
    grows_by first s (after_turned m s a n t) (event_said m n t.heard.event ++ said_if n (reply_text (reply_by m n a t.heard.ends))) (append_assoc s.said (event_said m n t.heard.event) _) g

grows_said : (first : List Said) (s : Stand) (n : ℕ) (text : Saying) → Grows first s → Grows first (with_said s n text)
grows_said first s n text g = grows_by first s (with_said s n text) (record { line = n; text = text } ∷ []) refl g

grows_shown : (first : List Said) (s : Stand) (n : ℕ) (d : Shown) → Grows first s → Grows first (after_shown s n d)
grows_shown first s n d g = grows_by first s (after_shown s n d) (map (said_under n) d.texts) refl g

grows_begun : (first : List Said) (s : Stand) (a n : ℕ) → Grows first s → Grows first (with_begun s a n)
grows_begun first s a n g = record { more = g.more; is = g.is }

grows_start : (s : Stand) → Grows s.said s
grows_start s = record { more = []; is = sym (append-nil s.said) }

memory_front : (xs ys : List Said) → HadMemory (xs ++ ys) → HadMemory xs
memory_front [] ys all = tt
memory_front (x ∷ xs) ys all = (all.0, memory_front xs ys all.1)

memory_last : (xs ys : List Said) → HadMemory (xs ++ ys) → HadMemory ys
memory_last [] ys all = all
memory_last (x ∷ xs) ys all = memory_last xs ys all.1

-- so what was told before had memory too
memory_back : (first : List Said) (s : Stand) → Grows first s → HadMemory s.said → HadMemory first
memory_back first s g all = memory_front first g.more (subst HadMemory g.is all)

-- Begins.

may_once : (r : Option Errno) (x y : Answer) → MayAnswer r x → MayAnswer r y → x ≢ answer.Refused NoMem → y ≢ answer.Refused NoMem → x ≡ y
may_once (Some e) x y p q nx ny = p ∙ sym q
may_once None x y (inl p) (inl q) nx ny = p ∙ sym q
may_once None x y (inl p) (inr q) nx ny = absurd (ny q)
may_once None x y (inr p) q nx ny = absurd (nx p)

-- the ways in which a line is told
abbrev pub is_told : Telling → Bool
is_told (telling.Plus line) = true
is_told telling.ToEnd = true
is_told telling.Dying = false
is_told telling.Ending = false

-- an answer that ends what began is told
told_answer : (m : Telling) (s : Stand) (a n : ℕ) (site : Site) (x : Answer) → is_told m ≡ true → HadMemory (after_turned m s a n (record { site = site; heard = ends_with event.Silent x })).said → x ≢ answer.Refused NoMem
told_answer (telling.Plus line) s a n site x is all e =
    let last = memory_last (s.said ++ []) _ all in
    let P : Answer → Type 0 = λ v. HadMemory (said_if n (Some (saying_for None v))) in
    (subst P e last).0 refl
told_answer telling.ToEnd s a n site x is all e =
    let last = memory_last (s.said ++ []) _ all in
    let P : Answer → Type 0 = λ v. HadMemory (said_if n (Some (saying_for None v))) in
    (subst P e last).0 refl
told_answer telling.Dying s a n site x is all e = absurd (cc)
told_answer telling.Ending s a n site x is all e = absurd (cc)

module _ (m : Telling) (s : Stand) (a n : ℕ) (is : is_told m ≡ true) where
  open_once : (f d : ℕ) (u v : Turned) → OpensFile s.site a f d u → OpensFile s.site a f d v → HadMemory (after_turned m s a n u).said → HadMemory (after_turned m s a n v).said → u ≡ v
  open_once f d u v p q hu hv =
      let P : Turned → Type 0 = λ t. HadMemory (after_turned m s a n t).said in
      let px = told_answer m s a n (with_entry s.site (entry.Open a f d p.answer)) p.answer is (subst P p.turned hu) in
      let qx = told_answer m s a n (with_entry s.site (entry.Open a f d q.answer)) q.answer is (subst P q.turned hv) in
      let same = may_once (open_refusal (state_at s.site) f d) p.answer q.answer p.may q.may px qx in
      p.turned ∙ ap (λ (x : Answer). (let t : Turned = record { site = with_entry s.site (entry.Open a f d x); heard = ends_with event.Silent x } in t)) same ∙ sym q.turned

  entered_not : (f : ℕ) (request : Request) (x : Answer) → HadMemory (after_turned m s a n (record { site = with_entry s.site (entry.Enter a f request x); heard = entered x (refusal_in x) })).said → x ≢ answer.Refused NoMem
  entered_not f request x all e =
      let P : Answer → Type 0 = λ v. HadMemory (after_turned m s a n (record { site = with_entry s.site (entry.Enter a f request v); heard = entered v (refusal_in v) })).said in
      told_answer m s a n (with_entry s.site (entry.Enter a f request (answer.Refused NoMem))) (answer.Refused NoMem) is (subst P e all) refl

  enter_once : (f : ℕ) (request : Request) (u v : Turned) → EntersCall s.site a f request u → EntersCall s.site a f request v → HadMemory (after_turned m s a n u).said → HadMemory (after_turned m s a n v).said → u ≡ v
  enter_once f request u v p q hu hv =
      let P : Turned → Type 0 = λ t. HadMemory (after_turned m s a n t).said in
      let px = entered_not f request p.answer (subst P p.turned hu) in
      let qx = entered_not f request q.answer (subst P q.turned hv) in
      let same = may_once (enter_refusal (state_at s.site) f request) p.answer q.answer p.may q.may px qx in
      p.turned ∙ ap (λ (x : Answer). (let t : Turned = record { site = with_entry s.site (entry.Enter a f request x); heard = entered x (refusal_in x) } in t)) same ∙ sym q.turned

  begins_once : (t : Task) (u v : Turned) → Begins s.site a t u → Begins s.site a t v → HadMemory (after_turned m s a n u).said → HadMemory (after_turned m s a n v).said → u ≡ v
  begins_once (task.Opens f d) u v p q hu hv = open_once f d u v p q hu hv
  begins_once (task.Calls f request) u v p q hu hv = enter_once f request u v p q hu hv
  begins_once (task.Closes f) u v p q hu hv = p ∙ sym q
  begins_once (task.Unplugs d) u v p q hu hv = p ∙ sym q

-- Lines.

grown_waiting : (x : Option ℕ) (a : ℕ) (s : Stand) → HadMemory (others_if x a s).said → HadMemory s.said
grown_waiting x a s all =
    memory_back s.said (others_if x a s) (kept_waiting (Grows s.said) (grows_turned s.said) (grows_said s.said) (grows_begun s.said) x a s (grows_start s)) all

grown_out : (m : Telling) (s : Stand) (a : ℕ) (t : Stand) → RunsOut m s a t → HadMemory t.said → HadMemory s.said
grown_out m s a t runs all = memory_back s.said t (kept_out (Grows s.said) (grows_turned s.said) (grows_said s.said) (grows_begun s.said) m s a t runs (grows_start s)) all

line_once : (s : Stand) (n a : ℕ) (t : Task) (x y : Stand) → BeginsLine s n a t x → BeginsLine s n a t y → HadMemory x.said → HadMemory y.said → x ≡ y
line_once s n a t x y p q hx hy =
    let S : Stand → Type 0 = λ v. HadMemory v.said in
    let hu = grown_waiting (awaited p.turned.heard.event) a (after_turned telling.ToEnd (with_begun s a n) a n p.turned) (subst S p.stand hx) in
    let hv = grown_waiting (awaited q.turned.heard.event) a (after_turned telling.ToEnd (with_begun s a n) a n q.turned) (subst S q.stand hy) in
    let same = begins_once telling.ToEnd (with_begun s a n) a n refl t p.turned q.turned p.begins q.begins hu hv in
    p.stand ∙ ap (after_waiting telling.ToEnd (with_begun s a n) a n) same ∙ sym q.stand

run_once : (s : Stand) (n a : ℕ) (r : Result Task Errno) (x y : Stand) → RunsTask s n a r x → RunsTask s n a r y → HadMemory x.said → HadMemory y.said → x ≡ y
run_once s n a (Ok t) x y p q hx hy =
    let same = line_once s n a t p.begun q.begun p.begins q.begins (grown_out telling.ToEnd p.begun a x p.runs hx) (grown_out telling.ToEnd q.begun a y q.runs hy) in
    let P : Stand → Type 0 = λ v. RunsOut telling.ToEnd v a y in
    RunsOut-once telling.ToEnd p.begun a x y p.runs (subst P (sym same) q.runs)
run_once s n a (Err e) x y p q hx hy = p ∙ sym q

begin_once : (s : Stand) (n a : ℕ) (r : Result Task Errno) (x y : Stand) → BeginsTask s n a r x → BeginsTask s n a r y → HadMemory x.said → HadMemory y.said → x ≡ y
begin_once s n a (Ok t) x y p q hx hy =
    let S : Stand → Type 0 = λ v. HadMemory v.said in
    let same = begins_once (telling.Plus n) (with_begun s a n) a n refl t p.turned q.turned p.begins q.begins (subst S p.stand hx) (subst S q.stand hy) in
    p.stand ∙ ap (after_turned (telling.Plus n) (with_begun s a n) a n) same ∙ sym q.stand
begin_once s n a (Err e) x y p q hx hy = p ∙ sym q

close_once : (v : Bool) (s : Stand) (n c f : ℕ) (x y : Stand) → ClosesIf v s n c f x → ClosesIf v s n c f y → x ≡ y
close_once true s n c f x y p q = RunsOut-once telling.Dying (after_waiting telling.Dying (with_begun s c n) c n (closes s.site c f)) c x y p q
close_once false s n c f x y p q = p ∙ sym q

-- a line leads to one stand, and asks one thing
pub record SameEnd (x y : Stand) (p q : List Asking) : Type 0 where
  pub stand : x ≡ y
  pub asked : p ≡ q

form_once : (s : Stand) (n : ℕ) (l : Form) (x y : Stand) (ps qs : List Asking) → PlaysForm s n l x ps → PlaysForm s n l y qs → HadMemory x.said → HadMemory y.said → SameEnd x y ps qs
form_once s n (form.Plain a deed) x y ps qs p q hx hy =
    let same = RunsOut-once telling.ToEnd s a p.ready q.ready p.runs q.runs in
    let P : Stand → Type 0 = λ v. RunsTask v n a (task_of v.replies deed) y × (qs ≡ asking_of n a (task_of v.replies deed)) in
    let goes = subst P (sym same) q.goes in
    record { stand = run_once p.ready n a (task_of p.ready.replies deed) x y p.goes.0 goes.0 hx hy; asked = p.goes.1 ∙ sym goes.1 }
form_once s n (form.Minus a deed) x y ps qs p q hx hy =
    let same = RunsOut-once telling.ToEnd s a p.ready q.ready p.runs q.runs in
    let P : Stand → Type 0 = λ v. BeginsTask v n a (task_of v.replies deed) y × (qs ≡ asking_of n a (task_of v.replies deed)) in
    let goes = subst P (sym same) q.goes in
    record { stand = begin_once p.ready n a (task_of p.ready.replies deed) x y p.goes.0 goes.0 hx hy; asked = p.goes.1 ∙ sym goes.1 }
form_once s n (form.Plus a) x y ps qs p q hx hy = record { stand = p.0 ∙ sym q.0; asked = p.1 ∙ sym q.1 }
form_once s n (form.Die c) x y ps qs p q hx hy =
    let same = RunsOut-once telling.ToEnd s c p.0.ready q.0.ready p.0.runs q.0.runs in
    let P : Stand → Type 0 = λ v. Chain (ClosesOwn n c) v all_files q.0.goes.closed in
    let closed = Chain-once (ClosesOwn n c) (λ t f u v cu cv. close_once _ t n c f u v cu cv) p.0.ready all_files p.0.goes.closed q.0.goes.closed p.0.goes.closes (subst P (sym same) q.0.goes.closes) in
    record { stand = p.0.goes.told ∙ ap (λ (v : Stand). with_said v n saying.Ok) closed ∙ sym q.0.goes.told; asked = p.1 ∙ sym q.1 }
form_once s n (form.Data c call) x y ps qs p q hx hy =
    let same = RunsOut-once telling.ToEnd s c p.0.ready q.0.ready p.0.runs q.0.runs in
    record { stand = p.0.goes ∙ ap (λ (v : Stand). data_played v n call) same ∙ sym q.0.goes; asked = p.1 ∙ sym q.1 }

told_same : (x y : Stand) (p q : List Asking) → x ≡ y → p ≡ q → (let t : Told = record { stand = x; asked = p } in t) ≡ record { stand = y; asked = q }
told_same x y p q es ea = ap (λ (v : Stand). (let t : Told = record { stand = v; asked = p } in t)) es ∙ ap (λ (v : List Asking). (let t : Told = record { stand = y; asked = v } in t)) ea

next_once : (t : Told) (l : Line) (x y : Told) → PlaysNext t l x → PlaysNext t l y → HadMemory x.stand.said → HadMemory y.stand.said → x ≡ y
next_once t l x y p q hx hy =
    let same = form_once t.stand l.number l.form x.stand y.stand p.more q.more p.plays q.plays hx hy in
    told_same x.stand y.stand x.asked y.asked same.stand (p.asks ∙ ap (λ v. t.asked ++ v) same.asked ∙ sym q.asks)

grown_lines : (t : Told) (lines : List Line) (x : Told) → Chain PlaysNext t lines x → HadMemory x.stand.said → HadMemory t.stand.said
grown_lines t lines x plays all = memory_back t.stand.said x.stand (kept_lines (Grows t.stand.said) (grows_turned t.stand.said) (grows_said t.stand.said) (grows_begun t.stand.said) (grows_shown t.stand.said) t lines x plays (grows_start t.stand)) all

lines_once : (t : Told) (lines : List Line) (x y : Told) → Chain PlaysNext t lines x → Chain PlaysNext t lines y → HadMemory x.stand.said → HadMemory y.stand.said → x ≡ y
lines_once t [] x y p q hx hy = p ∙ sym q
lines_once t (l ∷ lines) x y p q hx hy =
    let same = next_once t l p.mid q.mid p.link q.link (grown_lines p.mid lines x p.others hx) (grown_lines q.mid lines y q.others hy) in
    let P : Told → Type 0 = λ v. Chain PlaysNext v lines y in
    lines_once p.mid lines x y p.others (subst P (sym same) q.others) hx hy

-- The end.

end_once : (v : Bool) (s : Stand) (f : ℕ) (x y : Stand) → ClosesEnd v s f x → ClosesEnd v s f y → x ≡ y
end_once true s f x y p q = RunsOut-once telling.Ending (after_waiting telling.Ending s ENDER 0 (closes s.site ENDER f)) ENDER x y p q
end_once false s f x y p q = p ∙ sym q

grown_finish : (s : Stand) (actors : List ℕ) (t : Stand) → Chain (RunsOut telling.ToEnd) s actors t → HadMemory t.said → HadMemory s.said
grown_finish s actors t runs all = memory_back s.said t (kept_finish (Grows s.said) (grows_turned s.said) (grows_said s.said) (grows_begun s.said) telling.ToEnd s actors t runs (grows_start s)) all

grown_ends : (s : Stand) (files : List ℕ) (t : Stand) → Chain EndsFile s files t → HadMemory t.said → HadMemory s.said
grown_ends s files t runs all = memory_back s.said t (kept_ends (Grows s.said) (grows_turned s.said) (grows_said s.said) (grows_begun s.said) s files t runs (grows_start s)) all

played_memory : (lines : List Line) (told : Record) (f : FollowsScript lines told) → HadMemory told.replies → HadMemory f.played.said
played_memory lines told f all = grown_finish f.played all_actors f.finished f.finishes (grown_ends f.finished all_files f.ended f.ends (subst HadMemory f.replies all))

record_same : (h h' : List Entry) (r r' : List Said) (l l' : List Left) → h ≡ h' → r ≡ r' → l ≡ l' → (let t : Record = record { history = h; replies = r; left = l } in t) ≡ record { history = h'; replies = r'; left = l' }
record_same h h' r r' l l' eh er el =
    ap (λ (v : List Entry). (let t : Record = record { history = v; replies = r; left = l } in t)) eh
    ∙ ap (λ (v : List Said). (let t : Record = record { history = h'; replies = v; left = l } in t)) er
    ∙ ap (λ (v : List Left). (let t : Record = record { history = h'; replies = r'; left = v } in t)) el

pub record_told : RecordIsTold
record_told lines a b fa fb ha hb =
    let told = lines_once _ lines _ _ fa.plays fb.plays (played_memory lines a fa ha) (played_memory lines b fb hb) in
    let played : fa.played ≡ fb.played = ap (λ (t : Told). t.stand) told in
    let F : Stand → Type 0 = λ v. Chain (RunsOut telling.ToEnd) v all_actors fb.finished in
    let finished : fa.finished ≡ fb.finished =
    Chain-once (RunsOut telling.ToEnd) (λ s x t u p q. RunsOut-once telling.ToEnd s x t u p q) fa.played all_actors fa.finished fb.finished fa.finishes (subst F (sym played) fb.finishes)
    in
    let E : Stand → Type 0 = λ v. Chain EndsFile v all_files fb.ended in
    let ended : fa.ended ≡ fb.ended = Chain-once EndsFile (λ s f t u p q. end_once _ s f t u p q) fa.finished all_files fa.ended fb.ended fa.ends (subst E (sym finished) fb.ends) in
    record_same a.history b.history a.replies b.replies a.left b.left
    (fa.history ∙ ap (λ (s : Stand). s.site.history) ended ∙ sym fb.history)
    (fa.replies ∙ ap (λ (s : Stand). s.said) ended ∙ sym fb.replies)
    (fa.left ∙ ap (λ (s : Stand). all_left (state_at s.site)) finished ∙ sym fb.left)
