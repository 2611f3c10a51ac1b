-- a procedure is entered: what is written into its frame
use Rattle.std.proofs.Common.{◌≡◌, ℕ, zero, suc, ◌+◌, ◌-◌, ◌≤◌, List, [], ◌∷◌, ◌++◌, Some, arith, refl, sym}
use Rattle.std.specs.Prelude.{slice_get}
use Rattle.std.proofs.lemmas.Bool.Decides.{nat_tests}
use Rattle.cmm_chain.specs.declared.frame.Frame.{Frame}
use Rattle.cmm_chain.specs.Contents.{Content, Number, LandingOf, Contents, with_content}
use Rattle.cmm_chain.specs.Plans.{saved_in, saved_offsets, pair_offsets}
use Rattle.cmm_chain.specs.Chain.{behind}
use Rattle.cmm_chain.specs.Running.{blank, with_words, saved_words, pair_words, fixed_words, entered}
use Rattle.cmm_chain.specs.Laws.{EnteredIsFramed}
use Rattle.cmm_chain.proofs.Lasting.{chain_outlives}
use Rattle.cmm_chain.proofs.Offsets.{IsFresh, AreDistinct, AreInside, IsLaidOut, laid_out, fresh_front, distinct_rest, inside_rest}

words_append : (at : ℕ) (xs ys : List (ℕ × Content)) (contents : Contents) → with_words at (xs ++ ys) contents ≡ with_words at ys (with_words at xs contents)
words_append at [] ys contents = refl
words_append at ((offset, c) ∷ xs) ys contents = words_append at xs ys (with_content (at + offset) c contents)

module _ (at : ℕ) where
  -- ---- words that are not written
  saved_elsewhere : (o : ℕ) (kept : Contents) (saved : List (ℕ × ℕ)) (contents : Contents) → IsFresh o (saved_offsets saved) →
      with_words at (saved_words kept saved) contents (at + o) ≡ contents (at + o)
  saved_elsewhere o kept [] contents is = refl
  saved_elsewhere o kept ((register, p) ∷ rest) contents is =
      grind (arith, nat_tests, is.0, saved_elsewhere o kept rest (with_content (at + p) (kept register) contents) is.1)

  pairs_elsewhere : (o q frame k : ℕ) (pairs : List ℕ) (contents : Contents) → IsFresh o (pair_offsets pairs) →
      with_words at (pair_words q frame k pairs) contents (at + o) ≡ contents (at + o)
  pairs_elsewhere o q frame k [] contents is = refl
  pairs_elsewhere o q frame k (p ∷ rest) contents is =
      grind (
        arith,
        nat_tests,
        is.0,
        is.1.0,
        pairs_elsewhere o q frame (suc k) rest (with_content (at + (p + 8)) (Number frame) (with_content (at + p) (LandingOf q k) contents)) is.1.1,
      )

  -- above the frame
  saved_below : (size a : ℕ) (kept : Contents) (saved : List (ℕ × ℕ)) (ys : List ℕ) (contents : Contents) → AreInside size (saved_offsets saved ++ ys) →
      at + size ≤ a → with_words at (saved_words kept saved) contents a ≡ contents a
  saved_below size a kept [] ys contents is le = refl
  saved_below size a kept ((register, p) ∷ rest) ys contents is le =
      grind (arith, nat_tests, is.0, saved_below size a kept rest ys (with_content (at + p) (kept register) contents) is.1 le)

  pairs_below : (size a q frame k : ℕ) (pairs : List ℕ) (contents : Contents) → AreInside size (pair_offsets pairs) → at + size ≤ a →
      with_words at (pair_words q frame k pairs) contents a ≡ contents a
  pairs_below size a q frame k [] contents is le = refl
  pairs_below size a q frame k (p ∷ rest) contents is le =
      grind (
        arith,
        nat_tests,
        is.0,
        is.1.0,
        pairs_below size a q frame (suc k) rest (with_content (at + (p + 8)) (Number frame) (with_content (at + p) (LandingOf q k) contents)) is.1.1 le,
      )

  -- ---- words that are written
  saved_here : (r o : ℕ) (kept : Contents) (saved : List (ℕ × ℕ)) (ys : List ℕ) (contents : Contents) → AreDistinct (saved_offsets saved ++ ys) →
      saved_in saved r ≡ Some o → (with_words at (saved_words kept saved) contents (at + o) ≡ kept r) × IsFresh o ys
  saved_here r o kept ((register, p) ∷ rest) ys contents is saves =
      let front = fresh_front p (saved_offsets rest) ys is.0 in
      grind (
        arith,
        nat_tests,
        front,
        saved_elsewhere p kept rest (with_content (at + p) (kept register) contents) front.0,
        saved_here r o kept rest ys (with_content (at + p) (kept register) contents) is.1,
      )
  saved_here r o kept [] ys contents is saves = grind arith

  pairs_here : (q frame k n p : ℕ) (pairs : List ℕ) (contents : Contents) → AreDistinct (pair_offsets pairs) → slice_get pairs n ≡ Some p →
      (with_words at (pair_words q frame k pairs) contents (at + p) ≡ LandingOf q (k + n))
      × (with_words at (pair_words q frame k pairs) contents (at + (p + 8)) ≡ Number frame)
  pairs_here q frame k zero p (o ∷ rest) contents is gives =
      let now = with_content (at + (o + 8)) (Number frame) (with_content (at + o) (LandingOf q k) contents) in
      grind (arith, nat_tests, is.0.0, pairs_elsewhere o q frame (suc k) rest now is.0.1, pairs_elsewhere (o + 8) q frame (suc k) rest now is.1.0)
  pairs_here q frame k (suc n) p (o ∷ rest) contents is gives =
      grind (
        arith,
        nat_tests,
        pairs_here q frame (suc k) n p rest (with_content (at + (o + 8)) (Number frame) (with_content (at + o) (LandingOf q k) contents)) is.1.1 gives,
      )
  pairs_here q frame k n p [] contents is gives = grind arith

-- ---- the new frame: the return address is written, then the registers, then the pairs

module _ (f : Frame) (laid : IsLaidOut f) (q at : ℕ) (back : Content) (kept : Contents) (contents : Contents) where
  back_written : with_words at (fixed_words f q at back kept) contents (at + f.return_at) ≡ back
  back_written =
      let first = with_content (at + f.return_at) back contents in
      let apart = fresh_front f.return_at (saved_offsets f.saved) _ laid.distinct.0 in
      rw (
        words_append at (saved_words kept f.saved) (pair_words q at 0 f.pairs) first,
        pairs_elsewhere at f.return_at q at 0 f.pairs (with_words at (saved_words kept f.saved) first) apart.1,
        saved_elsewhere at f.return_at kept f.saved first apart.0,
      )
      (grind (arith, nat_tests))

  saved_written : (r o : ℕ) → saved_in f.saved r ≡ Some o → with_words at (fixed_words f q at back kept) contents (at + o) ≡ kept r
  saved_written r o saves =
      let first = with_content (at + f.return_at) back contents in
      let written = saved_here at r o kept f.saved _ first laid.distinct.1 saves in
      rw (
        words_append at (saved_words kept f.saved) (pair_words q at 0 f.pairs) first,
        pairs_elsewhere at o q at 0 f.pairs (with_words at (saved_words kept f.saved) first) written.1,
      )
      written.0

  pairs_written : (n p : ℕ) → slice_get f.pairs n ≡ Some p →
      (with_words at (fixed_words f q at back kept) contents (at + p) ≡ LandingOf q n)
      × (with_words at (fixed_words f q at back kept) contents (at + (p + 8)) ≡ Number at)
  pairs_written n p gives =
      let first = with_content (at + f.return_at) back contents in
      rw (words_append at (saved_words kept f.saved) (pair_words q at 0 f.pairs) first)
      (grind (
        arith,
        pairs_here at q at 0 n p f.pairs (with_words at (saved_words kept f.saved) first)
            (distinct_rest (saved_offsets f.saved) _ laid.distinct.1) gives,
      ))

  above_stays : (a : ℕ) → at + f.size ≤ a → with_words at (fixed_words f q at back kept) contents a ≡ contents a
  above_stays a le =
      let first = with_content (at + f.return_at) back contents in
      rw (
        words_append at (saved_words kept f.saved) (pair_words q at 0 f.pairs) first,
        pairs_below at f.size a q at 0 f.pairs (with_words at (saved_words kept f.saved) first)
            (inside_rest f.size (saved_offsets f.saved) (pair_offsets f.pairs) laid.inside.1) le,
        saved_below at f.size a kept f.saved _ first laid.inside.1 le,
      )
      (grind (arith, nat_tests, laid.inside.0))

pub entered_is_framed : EnteredIsFramed
entered_is_framed plan top q suspended p contents is fits chain =
    let f = plan.frame q in
    let laid = laid_out f is in
    let at = p.at - f.size in
    let before = blank at p.at contents in
    let after = with_words at (fixed_words f q at p.back p.kept) before in
    record {
      pairs = record {
        code = λ k o gives. (pairs_written f laid q at p.back p.kept before k o gives).0;
        frame = λ k o gives. (pairs_written f laid q at p.back p.kept before k o gives).1;
      };
      chain = chain_outlives plan top contents after suspended p (behind plan after q (entered plan q p contents).point)
          (record {
            at = omega arith;
            back = sym (back_written f laid q at p.back p.kept before);
            kept = λ r callee_saves. grind (arith, λ (o : ℕ). saved_written f laid q at p.back p.kept before r o);
          })
          (λ a le. grind (arith, nat_tests, above_stays f laid q at p.back p.kept before a))
          chain;
    }
