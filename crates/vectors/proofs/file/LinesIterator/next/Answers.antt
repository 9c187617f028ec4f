-- `Lines::next` meets its contract: the line ends where `line_end` says.
use Rattle.std.proofs.Common.{rules, ◌≡◌, ◌≢◌, ◌+◌, ◌-◌, ℕ, List, sym, subst, ap, ◌∙◌, arith, length, take, drop, slice_index}
use Rattle.std.proofs.lemmas.Grind.{common_steps}
use Rattle.std.specs.List.{All}
use Rattle.vectors.proofs.file.LinesIterator.next.Goals as goal

pub returns-clause-steps : goal.returns-clause-steps
returns-clause-steps c =
    let text = c.args.self.now.rest.now in
    let line = c.split_at.result.0.now in
    let m = c.line_end.result in
    let front : line ≡ take m text = c.split_at.ensures.front in
    let long : length line ≡ m = search rules in
    let first : line ≡ take (length line) text = front ∙ ap (λ (k : ℕ). take k text) (sym long) in
    let rest : c.unwrap_or_default-self.result.now ≡ drop (length line + 1) text = grind (arith, common_steps) in
    let whole : take (m - 0) (drop 0 text) ≡ line = ap (λ (k : ℕ). take k text) {x = m - 0} {y = m} (omega arith) ∙ sym front in
    (first, rest, subst (λ (l : List ℕ). All (λ b. b ≢ 10) l) whole c.line_end.ensures.line, λ h. ap (slice_index text) long ∙ c.line_end.ensures.feed (omega (arith, h, long)))
