-- What a writer puts in steps it puts as one.
use Rattle.std.specs.Prelude.{◌≡◌, refl, List, [], ◌++◌, ℕ, ◌+◌, ◌≤◌, length}
use Rattle.std.proofs.Common.{◌∙◌, append_assoc, drop-drop}
use Rattle.std.proofs.lemmas.List.Edits.{sets, sets-eq}
use borrow.Rule.Slice.PartMut.{put_mid}
use Rattle.text.specs.declared.write.Writer.{Writer}
use Rattle.text.specs.Puts.{Fits, Puts}
use Rattle.text.specs.WritingLaws.{wrote_none, wrote_then, wrote_as}

pub puts_none : {w : Writer} → Fits w [] → Puts w w []
puts_none r = record { same_reference = refl; wrote = wrote_none r }

pub puts_then : {u v w : Writer} {xs ys : List ℕ} → Puts u v xs → Puts v w ys → Puts u w (xs ++ ys)
puts_then p q = record { same_reference = q.same_reference ∙ p.same_reference; wrote = wrote_then p.wrote q.wrote }

pub puts_as : {v w : Writer} {xs ys : List ℕ} → xs ≡ ys → Puts v w xs → Puts v w ys
puts_as e p = record { same_reference = p.same_reference; wrote = wrote_as e p.wrote }

-- a part overwritten
pub part_sets : (l new : List ℕ) (at k : ℕ) (text : List ℕ) → new ≡ text → k ≡ length text → at + length text ≤ length l → put_mid at k l new ≡ sets l at text
part_sets l new at k text e q h = rw (e, q, sets-eq text l at h, drop-drop (length text) at l, append_assoc)
