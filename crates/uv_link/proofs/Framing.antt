-- The frames of a link seen without their room.
use Rattle.std.proofs.Common.{◌≡◌, ℕ, zero, suc, ◌<◌, false, List, [], ◌∷◌, ◌++◌, length, map, Some, refl, ap, sym, subst, ◌∙◌}
use Rattle.std.proofs.lemmas.Bool.{leb-false}
use Rattle.std.proofs.lemmas.List.{map-append, length-map}
use Rattle.std.proofs.lemmas.Option.{slice_get_within, slice_get-map}
use Rattle.std.specs.Option.{option_to_list}
use Rattle.std.specs.Prelude.{slice_get, option_map, remove, nat_le}
use Rattle.uv_num.specs.declared.limits.TheConstants.{LINK_FRAMES}
use Rattle.uv_queue.specs.Order.{oldest, without_oldest}
use Rattle.uv_link.specs.declared.frame.Frame.{Frame}
use Rattle.uv_link.specs.Frames.{PlainFrame, plain_frame, with_copy}

-- a list without an item, seen otherwise
pub remove-map : {X Y : Type 0} (f : X → Y) (xs : List X) (at : ℕ) → map f (remove xs at) ≡ remove (map f xs) at
remove-map f [] zero = refl
remove-map f [] (suc at) = refl
remove-map f (x ∷ xs) zero = refl
remove-map f (x ∷ xs) (suc at) = ap (λ v. f x ∷ v) (remove-map f xs at)

-- a frame more, which says what one that stands there says
pub copied : (frames : List Frame) (now : List PlainFrame) (at : ℕ) (frame copy : Frame) (new : List Frame) → map plain_frame frames ≡ now → slice_get frames at ≡ Some frame → nat_le LINK_FRAMES (length frames) ≡ false → plain_frame copy ≡ plain_frame frame → new ≡ frames ++ copy ∷ [] → (at < length now) × (length now < LINK_FRAMES) × (map plain_frame new ≡ with_copy now at)
copied frames now at frame copy new view there room same put =
    let P : List PlainFrame → Type 0 = λ v. (at < length v) × (length v < LINK_FRAMES) × (map plain_frame new ≡ with_copy v at) in
    let seen : slice_get (map plain_frame frames) at ≡ Some (plain_frame frame) = slice_get-map plain_frame frames at ∙ ap (option_map plain_frame) there in
    let Q : ℕ → Type 0 = λ n. n < LINK_FRAMES in
    let few : length (map plain_frame frames) < LINK_FRAMES = subst Q (sym (length-map frames plain_frame)) (leb-false LINK_FRAMES (length frames) room) in
    let all : map plain_frame new ≡ with_copy (map plain_frame frames) at = ap (map plain_frame) put ∙ (map-append plain_frame frames (copy ∷ []) ∙ (ap (λ x. map plain_frame frames ++ x ∷ []) same ∙ sym (ap (λ o. map plain_frame frames ++ option_to_list o) seen))) in
    subst P view (slice_get_within (map plain_frame frames) at (plain_frame frame) seen, few, all)

-- what was popped goes back
pub goes_back : {X : Type 0} (frames : List X) (frame : X) → oldest frames ≡ Some frame → frame ∷ without_oldest frames ≡ frames
goes_back [] frame is = cc
goes_back (x ∷ frames) frame is = let same : x ≡ frame = cc in ap (λ v. v ∷ frames) (sym same)
