use Rattle.std.proofs.Common.{◌≡◌, ◌<◌, ◌-◌, ℕ, List, length, min, slice_index, arith, subst, sym, ap, ◌∙◌}
use Rattle.dav_edge.specs.Stream.{HasEnd}
use Rattle.dav_edge.proofs.Pieces.{crosses_more, crosses_shorter, end_at_cut}
use Rattle.dav_edge.proofs.stream.Stream.piece_len.Goals as goal
use Rattle.dav_edge.proofs.stream.Stream.piece_len.Goals.{then-self-cut, else-self-cut}

pub loop-cut-preserved : goal.loop-cut-preserved
loop-cut-preserved c =
    let s = c.args.self.now in
    let cut : ℕ = slice_index s.cuts.items c.loop-cut.cut-index in
    let same : slice_index c.deref-cut-items.result.now c.loop-cut.cut-index ≡ cut = ap (λ (l : List ℕ). slice_index l c.loop-cut.cut-index) c.deref-cut-items.ensures.value in
    let at_cut : c.loop-cut.cut-index < length s.cuts.items = subst (λ (l : List ℕ). c.loop-cut.cut-index < length l) c.deref-cut-items.ensures.value c.loop-cut-test.true in
    let old = c.loop-cut.invariant in
    elim c.if-self-cut.branch [
      | then-self-cut w ↦
          let is : c.if-self-cut.count ≡ min c.loop-cut.count (cut - s.at) = w.count-is ∙ w.min-count-then-self-cut.ensures ∙ ap (λ (n : ℕ). min c.loop-cut.count (n - s.at)) same in
          let behind : s.at < cut = subst (λ (n : ℕ). s.at < n) same w.if-self-cut.true in
          record {
            fits = omega (arith, old.fits);
            within = omega (arith, old.within);
            crosses_none = crosses_more _ _ _ _ (crosses_shorter _ _ _ c.loop-cut.count _ (omega arith) old.crosses_none) (λ _. omega arith);
            ends = subst (HasEnd _ _ _ _) (sym is) (end_at_cut _ _ _ _ _ _ at_cut behind old.ends);
            moves = λ room left. let before : 0 < c.loop-cut.count = old.moves room left in omega arith;
          }
      | else-self-cut w ↦ record {
        fits = omega (arith, old.fits);
        within = omega (arith, old.within);
        crosses_none = crosses_more _ _ _ _ (crosses_shorter _ _ _ c.loop-cut.count _ (omega arith) old.crosses_none) (λ h. absurd (omega arith));
        ends = subst (HasEnd _ _ _ _) (sym w.count-is) old.ends;
        moves = λ room left. let before : 0 < c.loop-cut.count = old.moves room left in omega arith;
      }
    ]
