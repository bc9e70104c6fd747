-- What every turn and every text keeps, lines keep. Of a turn it is known that the history grows at its end.
use Rattle.std.proofs.Common.{ℕ, zero, suc, ◌+◌, Bool, true, false, List, [], ◌∷◌, Option, Some, None, Ok, Err, sym, subst}
use Rattle.std.specs.Prelude.{◌==◌, ◌||◌, Result, not, if◌then◌else◌}
use Rattle.uv_num.specs.declared.errno.Errno.{Errno}
use Rattle.uv_num.specs.declared.limits.TheConstants.{ENDER}
use Rattle.uv_report.specs.declared.saying.Saying.{Saying}
use Rattle.uv_script.specs.declared.form.Form.{Form}
use Rattle.uv_script.specs.declared.form.Form.TheVariants as form
use Rattle.uv_script.specs.declared.form.Line.{Line}
use Rattle.uv_run.specs.declared.flight.Task.{Task}
use Rattle.uv_run.specs.declared.reply.Telling.{Telling}
use Rattle.uv_run.specs.declared.reply.Telling.TheVariants as telling
use Rattle.uv_run.specs.Asking.{Asking, task_of}
use Rattle.uv_run.specs.Chains.{Chain}
use Rattle.uv_run.specs.DataPath.{Shown, after_shown, data_shown}
use Rattle.uv_run.specs.Follows.{ClosesEnd, EndsFile}
use Rattle.uv_run.specs.Lines.{BeginsTask, ClosesIf, ClosesOwn, PlaysForm, PlaysNext, RunsTask, Told, plus_line}
use Rattle.uv_run.specs.Site.{Turned, closes, event_of, is_busy}
use Rattle.uv_run.specs.Stand.{Stand, after_turned, begun_by, with_begun, with_said}
use Rattle.uv_run.specs.Turns.{RunsOut, after_event, after_waiting, awaited, is_on, one_turn, others_if, others_of, turns_of}
use Rattle.uv_run.proofs.Continuing.{Continues, begins_continues, closes_continues, event_continues}

module _ (P : Stand → Type 0) (turned : (m : Telling) (s : Stand) (a n : ℕ) (t : Turned) → Continues s.site t → P s → P (after_turned m s a n t)) (said : (s : Stand) (n : ℕ) (text : Saying) → P s → P (with_said s n text))
    (begun : (s : Stand) (a n : ℕ) → P s → P (with_begun s a n)) where
  kept_event : (m : Telling) (s : Stand) (a : ℕ) → P s → P (after_event m s a)
  kept_event m s a all = turned m s a (begun_by s a) (event_of s.site a) (event_continues s.site a) all

  kept_if : (v : Bool) (s t : Stand) → P s → P t → P (if v then s else t)
  kept_if true s t a b = a
  kept_if false s t a b = b

  kept_others : (n : ℕ) (s : Stand) (a f : ℕ) → P s → P (others_of n s a f)
  unfolding others_of
  kept_others zero s a f all = all
  kept_others (suc n) s a f all =
      let before = kept_others n s a f all in
      let t : Stand = others_of n s a f in
      kept_if ((n + 1 == a) || not (is_on t.site f (n + 1))) t (after_event telling.ToEnd t (n + 1)) before (kept_event telling.ToEnd t (n + 1) before)

  pub kept_waiting : (x : Option ℕ) (a : ℕ) (s : Stand) → P s → P (others_if x a s)
  kept_waiting None a s all = all
  kept_waiting (Some f) a s all = kept_others _ s a f all

  pub kept_after : (m : Telling) (s : Stand) (a n : ℕ) (t : Turned) → Continues s.site t → P s → P (after_waiting m s a n t)
  kept_after m s a n t continues all = kept_waiting (awaited t.heard.event) a (after_turned m s a n t) (turned m s a n t continues all)

  kept_turns : (n : ℕ) (m : Telling) (s : Stand) (a : ℕ) → P s → P (turns_of n m s a)
  unfolding turns_of one_turn
  kept_turns zero m s a all = all
  kept_turns (suc n) m s a all =
      let t : Stand = turns_of n m s a in
      kept_after m t a (begun_by t a) (event_of t.site a) (event_continues t.site a) (kept_turns n m s a all)

  pub kept_out : (m : Telling) (s : Stand) (a : ℕ) (s' : Stand) → RunsOut m s a s' → P s → P s'
  kept_out m s a s' runs all = subst P (sym runs.made) (kept_turns runs.count m s a all)

  -- Chains.

  kept_chain : {X : Type 0} (R : Stand → X → Stand → Type 0) → ((s : Stand) (x : X) (t : Stand) → R s x t → P s → P t) → (s : Stand) (xs : List X) (t : Stand) → Chain R s xs t → P s → P t
  kept_chain R step s [] t same all = subst P (sym same) all
  kept_chain R step s (x ∷ xs) t links all = kept_chain R step links.mid xs t links.others (step s x links.mid links.link all)

  -- Lines.

  pub kept_run : (s : Stand) (n a : ℕ) (r : Result Task Errno) (s' : Stand) → RunsTask s n a r s' → P s → P s'
  kept_run s n a (Ok task) s' runs all =
      let b = runs.begins in
      kept_out telling.ToEnd runs.begun a s' runs.runs (subst P (sym b.stand) (kept_after telling.ToEnd (with_begun s a n) a n b.turned (begins_continues s.site a task b.turned b.begins) (begun s a n all)))
  kept_run s n a (Err e) s' same all = subst P (sym same) (said s n _ all)

  kept_begin : (s : Stand) (n a : ℕ) (r : Result Task Errno) (s' : Stand) → BeginsTask s n a r s' → P s → P s'
  kept_begin s n a (Ok task) s' begins all =
      subst P (sym begins.stand) (turned (telling.Plus n) (with_begun s a n) a n begins.turned (begins_continues s.site a task begins.turned begins.begins) (begun s a n all))
  kept_begin s n a (Err e) s' same all = subst P (sym same) (said s n _ all)

  kept_plus : (v : Bool) (s : Stand) (n a : ℕ) → P s → P (plus_line v s n a)
  kept_plus true s n a all = kept_event (telling.Plus n) s a all
  kept_plus false s n a all = said s n _ all

  kept_close : (v : Bool) (s : Stand) (n c f : ℕ) (s' : Stand) → ClosesIf v s n c f s' → P s → P s'
  kept_close true s n c f s' runs all =
      kept_out telling.Dying (after_waiting telling.Dying (with_begun s c n) c n (closes s.site c f)) c s' runs (kept_after telling.Dying (with_begun s c n) c n (closes s.site c f) (closes_continues s.site c f) (begun s c n all))
  kept_close false s n c f s' same all = subst P (sym same) all

  kept_form : ((s : Stand) (n : ℕ) (d : Shown) → P s → P (after_shown s n d)) → (s : Stand) (n : ℕ) (x : Form) (s' : Stand) (asked : List Asking) → PlaysForm s n x s' asked → P s → P s'
  kept_form shown s n (form.Plain a deed) s' asked p all = kept_run p.ready n a (task_of p.ready.replies deed) s' p.goes.0 (kept_out telling.ToEnd s a p.ready p.runs all)
  kept_form shown s n (form.Minus a deed) s' asked p all = kept_begin p.ready n a (task_of p.ready.replies deed) s' p.goes.0 (kept_out telling.ToEnd s a p.ready p.runs all)
  kept_form shown s n (form.Plus a) s' asked p all = subst P (sym p.0) (kept_plus (is_busy s.site a) s n a all)
  kept_form shown s n (form.Die c) s' asked p all =
      let d = p.0.goes in
      subst P (sym d.told)
      (said d.closed n _ (kept_chain (ClosesOwn n c) (λ t f u closes told. kept_close _ t n c f u closes told) p.0.ready _ d.closed d.closes (kept_out telling.ToEnd s c p.0.ready p.0.runs all)))
  kept_form shown s n (form.Data c call) s' asked p all =
      let ready = p.0.ready in
      subst P (sym p.0.goes) (shown ready n (data_shown ready.site.held ready.replies call) (kept_out telling.ToEnd s c ready p.0.runs all))

  pub kept_lines : ((s : Stand) (n : ℕ) (d : Shown) → P s → P (after_shown s n d)) → (t : Told) (lines : List Line) (t' : Told) → Chain PlaysNext t lines t' → P t.stand → P t'.stand
  kept_lines shown t [] t' same all = subst (λ (v : Told). P v.stand) (sym same) all
  kept_lines shown t (l ∷ lines) t' links all = kept_lines shown links.mid lines t' links.others (kept_form shown t.stand l.number l.form links.mid.stand links.link.more links.link.plays all)

  kept_end : (v : Bool) (s : Stand) (f : ℕ) (s' : Stand) → ClosesEnd v s f s' → P s → P s'
  kept_end true s f s' runs all =
      kept_out telling.Ending (after_waiting telling.Ending s ENDER 0 (closes s.site ENDER f)) ENDER s' runs (kept_after telling.Ending s ENDER 0 (closes s.site ENDER f) (closes_continues s.site ENDER f) all)
  kept_end false s f s' same all = subst P (sym same) all

  pub kept_ends : (s : Stand) (files : List ℕ) (s' : Stand) → Chain EndsFile s files s' → P s → P s'
  kept_ends s files s' ends all = kept_chain EndsFile (λ t f u closes told. kept_end _ t f u closes told) s files s' ends all

  pub kept_finish : (m : Telling) (s : Stand) (actors : List ℕ) (s' : Stand) → Chain (RunsOut m) s actors s' → P s → P s'
  kept_finish m s actors s' runs all = kept_chain (RunsOut m) (λ t a u r told. kept_out m t a u r told) s actors s' runs all
