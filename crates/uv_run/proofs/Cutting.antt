-- The marks of a run rise from 0 to at most the length of its history.
use Rattle.std.proofs.Common.{◌≡◌, ℕ, ◌+◌, ◌≤◌, List, [], ◌∷◌, ◌++◌, Some, length, slice_get, refl, ap, sym, ◌∙◌, subst, arith, append-nil, append_assoc, length-append}
use Rattle.uv_machine.specs.declared.entry.Entry.{Entry}
use Rattle.uv_report.specs.declared.record.Record.{Record}
use Rattle.uv_script.specs.declared.form.Line.{Line}
use Rattle.uv_run.specs.declared.reply.Telling.{Telling}
use Rattle.uv_run.specs.declared.reply.Telling.TheVariants.{ToEnd}
use Rattle.uv_run.specs.Chains.{Chain}
use Rattle.uv_run.specs.Follows.{FollowsScript, all_actors, start_stand}
use Rattle.uv_run.specs.Laws.{AreCuts, MarksAreCuts, Rise}
use Rattle.uv_run.specs.Lines.{PlaysNext, Told, all_files}
use Rattle.uv_run.specs.Marks.{PlaysMark, ToldMarks, mark_at, told_marks}
use Rattle.uv_run.specs.Site.{Turned, start_site}
use Rattle.uv_run.specs.Stand.{Stand, after_turned}
use Rattle.uv_run.proofs.Continuing.{Continues, continued_length}
use Rattle.uv_run.proofs.Keeping.{kept_ends, kept_finish, kept_lines}

-- The history is at least so long, and stays so.

abbrev IsLong : ℕ → Stand → Type 0
IsLong length_then s = length_then ≤ mark_at s

long_turned : (k : ℕ) (m : Telling) (s : Stand) (a n : ℕ) (t : Turned) → Continues s.site t → IsLong k s → IsLong k (after_turned m s a n t)
long_turned k m s a n t continues long = let more = continued_length s.site.history t.site.history continues in omega (arith, more, long)

line_long : (t : Told) (l : Line) (t' : Told) → PlaysNext t l t' → mark_at t.stand ≤ mark_at t'.stand
line_long t l t' plays =
    let k = mark_at t.stand in
    kept_lines (IsLong k) (long_turned k) (λ s n text long. long) (λ s a n long. long) (λ s n d long. long) t (l ∷ []) t' (record { mid = t'; link = plays; others = refl }) (omega arith)

end_long : (lines : List Line) (told : Record) (f : FollowsScript lines told) → mark_at f.played ≤ length told.history
end_long lines told f =
    let k = mark_at f.played in
    let P : List Entry → Type 0 = λ v. k ≤ length v in
    let finished = kept_finish (IsLong k) (long_turned k) (λ s n text long. long) (λ s a n long. long) ToEnd f.played all_actors f.finished f.finishes (omega arith) in
    subst P (sym f.history) (kept_ends (IsLong k) (long_turned k) (λ s n text long. long) (λ s a n long. long) f.finished all_files f.ended f.ends finished)

-- Marks that rise.

rise_from : (low lower : ℕ) (marks : List ℕ) (high : ℕ) → lower ≤ low → Rise low marks high → Rise lower marks high
rise_from low lower [] high less rise = omega (arith, less, rise)
rise_from low lower (m ∷ marks) high less rise = (let r = rise.0 in omega (arith, less, r), rise.1)

rise_last : (low : ℕ) (marks : List ℕ) (mid high : ℕ) → mid ≤ high → Rise low marks mid → Rise low (marks ++ mid ∷ []) high
rise_last low [] mid high up rise = (rise, up)
rise_last low (m ∷ marks) mid high up rise = (rise.0, rise_last m marks mid high up rise.1)

-- the marks that lines put at the end
record PutsMarks (t : ToldMarks) (lines : List Line) (t' : ToldMarks) : Type 0 where
  pub marks : List ℕ
  pub is : t'.marks ≡ t.marks ++ marks
  pub count : length marks ≡ length lines
  pub first : slice_get (marks ++ mark_at t'.told.stand ∷ []) 0 ≡ Some (mark_at t.told.stand)
  pub rise : Rise (mark_at t.told.stand) marks (mark_at t'.told.stand)

puts_marks : (t : ToldMarks) (lines : List Line) (t' : ToldMarks) → Chain PlaysMark t lines t' → PutsMarks t lines t'
puts_marks t [] t' same = subst (PutsMarks t []) (sym same) (record { marks = []; is = sym (append-nil t.marks); count = refl; first = refl; rise = omega arith })
puts_marks t (l ∷ lines) t' links =
    let more = puts_marks links.mid lines t' links.others in
    let mark = mark_at t.told.stand in
    let count = more.count in
    record {
      marks = mark ∷ more.marks;
      is = more.is ∙ ap (λ v. v ++ more.marks) links.link.marks ∙ append_assoc t.marks (mark ∷ []) more.marks;
      count = omega (arith, count);
      first = refl;
      rise = (omega arith, rise_from (mark_at links.mid.told.stand) mark more.marks (mark_at t'.told.stand) (line_long t.told l links.mid.told links.link.plays) more.rise);
    }

pub marks_cut : MarksAreCuts
unfolding start_stand start_site
marks_cut lines told marks follows =
    let f = follows.follows in
    let m = follows.marked in
    let mark = mark_at f.played in
    let put = puts_marks (told_marks start_stand [] []) lines (told_marks f.played m.plays.asked m.begun) m.plays.plays in
    let is : marks ≡ put.marks ++ mark ∷ [] = m.whole ∙ ap (λ v. v ++ mark ∷ []) put.is in
    subst (AreCuts told.history lines) (sym is) (record {
      count = length-append put.marks (mark ∷ []) ∙ ap (λ (k : ℕ). k + 1) put.count;
      first = put.first;
      rise = rise_last 0 put.marks mark (length told.history) (end_long lines told f) put.rise;
    })
