-- Fields that have a value that they can't have.
use Rattle.std.proofs.Common.{◌≡◌, ◌≢◌, ℕ, ◌^◌, ◌<◌, ◌≤◌, List, [], ◌∷◌, ◌++◌, length, take, drop, refl, sym, ap, subst, ◌∙◌, inl, inr, arith, length-append, append_assoc}
use Rattle.std.specs.Int.{w32, from_be_bytes}
use Rattle.std.proofs.lemmas.Nat.{from_be_bytes-to_be_bytes_4}
use Rattle.std.proofs.lemmas.List.{length-take-le, take-append-drop, take_at, drop_at}
use Rattle.dav_text.specs.Path.{PathParts, IsPath, escaped}
use Rattle.dav_text.specs.Tag.{IsKept}
use Rattle.dav_text.specs.declared.tag.Seen.{Seen}
use Rattle.dav_text.specs.declared.tag.Seen.TheVariants.{Unknown, Absent, Untagged, Tagged}
use Rattle.dav_store.specs.declared.body_id.BodyId.{BodyId}
use Rattle.dav_index.specs.Records.{two_bytes, four_bytes, eight_bytes, body_text, seen_text, IsBare, IsNoted}
use Rattle.dav_index.specs.Reading.{sized, Begins, IsNumbered}
use Rattle.dav_index.specs.Faults.{named_path, entry_path, a_body, a_seen, a_byte, IsWrong}
use Rattle.dav_index.proofs.FieldLemmas.{length-two_bytes, length-four_bytes, length-eight_bytes}

head_of : ℕ → List ℕ → ℕ
head_of d [] = d
head_of d (x ∷ xs) = x

pub same_first : (x y : ℕ) (xs ys : List ℕ) → x ∷ xs ≡ y ∷ ys → x ≡ y
unfolding head_of
same_first x y xs ys e = ap (head_of 0) e

pub four_injective : (a b : ℕ) → a < 2 ^ 32 → b < 2 ^ 32 → four_bytes a ≡ four_bytes b → a ≡ b
unfolding four_bytes
four_injective a b fits same e =
    sym (from_be_bytes-to_be_bytes_4 a fits) ∙ ap (from_be_bytes w32) e ∙ from_be_bytes-to_be_bytes_4 b same

pub same_four : (a b : ℕ) (xs ys : List ℕ) → a < 2 ^ 32 → b < 2 ^ 32 → four_bytes a ++ xs ≡ four_bytes b ++ ys → a ≡ b
same_four a b xs ys fits same e =
    four_injective a b fits same (sym (take_at (four_bytes a) xs 4 (length-four_bytes a)) ∙ ap (take 4) e ∙ take_at (four_bytes b) ys 4 (length-four_bytes b))

pub length-body_text : (body : BodyId) → length body.sum ≡ 32 → length (body_text body) ≡ 44
length-body_text body size =
    omega (arith, length-append (four_bytes body.file ++ eight_bytes body.len) body.sum, length-append (four_bytes body.file) (eight_bytes body.len), length-four_bytes body.file, length-eight_bytes body.len)

pub wrong_body : (body : BodyId) (bs : List ℕ) → IsNumbered body → Begins (body_text body) bs → body.file < 2 → IsWrong a_body bs
wrong_body body bs is front small = record {
  text = body_text body;
  more = front.0;
  split = front.1;
  whole = length-body_text body is.sum_size;
  not_right = λ right.
      let same = same_four body.file right.0.file (eight_bytes body.len ++ body.sum) (eight_bytes right.0.len ++ right.0.sum) is.file_fits right.1.file_fits
      (sym (append_assoc (four_bytes body.file) (eight_bytes body.len) body.sum) ∙ right.2 ∙ append_assoc (four_bytes right.0.file) (eight_bytes right.0.len) right.0.sum) in
      absurd (omega (arith, right.1.file, same));
}

pub wrong_byte : (most b : ℕ) (bs more : List ℕ) → bs ≡ b ∷ more → most < b → IsWrong (a_byte most) bs
wrong_byte most b bs more split above = record {
  text = b ∷ [];
  more = more;
  split = split;
  whole = refl;
  not_right = λ right. absurd (omega (arith, right.1, same_first b right.0 [] [] right.2));
}

not_right_mark : (mark : ℕ) → mark ≢ 1 → mark ≢ 2 → mark ≢ 3 → (seen : Seen) → IsNoted seen → mark ∷ [] ≡ seen_text seen → ⊥
not_right_mark mark one two three Unknown is e = is
not_right_mark mark one two three Absent is e = one (same_first mark 1 [] [] e)
not_right_mark mark one two three Untagged is e = two (same_first mark 2 [] [] e)
not_right_mark mark one two three (Tagged tag) is e = three (same_first mark 3 [] (length tag ∷ tag) e)

pub wrong_mark : (mark : ℕ) (bs more : List ℕ) → bs ≡ mark ∷ more → mark ≢ 1 → mark ≢ 2 → mark ≢ 3 → IsWrong a_seen bs
wrong_mark mark bs more split one two three = record {
  text = mark ∷ [];
  more = more;
  split = split;
  whole = inl (mark, three, refl);
  not_right = λ right. not_right_mark mark one two three right.0 right.1 right.2;
}

not_right_tag : (len : ℕ) (tag : List ℕ) → ¬ (IsKept tag) → (seen : Seen) → IsNoted seen → 3 ∷ len ∷ tag ≡ seen_text seen → ⊥
not_right_tag len tag not_kept Unknown is e = is
not_right_tag len tag not_kept Absent is e = absurd (omega (arith, same_first 3 1 (len ∷ tag) [] e))
not_right_tag len tag not_kept Untagged is e = absurd (omega (arith, same_first 3 2 (len ∷ tag) [] e))
not_right_tag len tag not_kept (Tagged found) is e = not_kept (subst IsKept (sym (ap (drop 2) e)) is)

pub wrong_tag : (len : ℕ) (bs : List ℕ) → len ≤ length bs → ¬ (IsKept (take len bs)) → IsWrong a_seen (3 ∷ len ∷ bs)
wrong_tag len bs long not_kept = record {
  text = 3 ∷ len ∷ take len bs;
  more = drop len bs;
  split = ap (λ t. 3 ∷ len ∷ t) (sym (take-append-drop len bs));
  whole = inr (take len bs, ap (λ n. 3 ∷ n ∷ take len bs) (sym (length-take-le len bs long)));
  not_right = λ right. not_right_tag len (take len bs) not_kept right.0 right.1 right.2;
}

text_of_sized : (text other : List ℕ) → sized text ≡ sized other → text ≡ other
text_of_sized text other e =
    sym (drop_at (two_bytes (length text)) text 2 (length-two_bytes (length text))) ∙ ap (drop 2) e ∙ drop_at (two_bytes (length other)) other 2 (length-two_bytes (length other))

pub wrong_named : (text bs : List ℕ) → length text < 65536 → Begins (sized text) bs → ((path : PathParts) → IsPath path → escaped path ≡ text → ⊥) → IsWrong named_path bs
wrong_named text bs fits front none = record {
  text = sized text;
  more = front.0;
  split = front.1;
  whole = (text, fits, refl);
  not_right = λ right. none right.0 right.1 (sym (text_of_sized text (escaped right.0) right.2));
}

pub wrong_entry : (text bs : List ℕ) → length text < 65536 → Begins (sized text) bs → ((path : PathParts) → IsBare path → escaped path ≡ text → ⊥) → IsWrong entry_path bs
wrong_entry text bs fits front none = record {
  text = sized text;
  more = front.0;
  split = front.1;
  whole = (text, fits, refl);
  not_right = λ right. none right.0 right.1 (sym (text_of_sized text (escaped right.0) right.2));
}
