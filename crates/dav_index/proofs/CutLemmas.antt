-- Fields that are cut off.
use Rattle.std.proofs.Common.{◌≡◌, ◌≢◌, ℕ, suc, zero, ◌-◌, ◌*◌, ◌<◌, List, [], ◌∷◌, ◌++◌, length, refl, sym, ap, subst, ◌∙◌, inl, inr, arith, length-append, append_assoc}
use Rattle.std.specs.Prelude.{replicate}
use Rattle.std.proofs.lemmas.Nat.{be_bytes_2}
use Rattle.std.proofs.lemmas.List.{length-replicate}
use Rattle.dav_index.specs.Records.{two_bytes}
use Rattle.dav_index.specs.Faults.{named_path, entry_path, a_body, a_seen, a_number, a_byte, IsCutOff}
use Rattle.dav_index.proofs.FieldLemmas.{AreBytes, length-two_bytes}

-- bytes that are lacking
pub lacking : ℕ → List ℕ
lacking n = replicate n 0

pub length-lacking : (n : ℕ) → length (lacking n) ≡ n
unfolding lacking
length-lacking n = length-replicate n 0

pub some_lacking : (n : ℕ) → 0 < n → lacking n ≢ []
some_lacking n some e = absurd (omega (arith, length-lacking n, ap length e))

pub length-filled : (k : ℕ) (bs : List ℕ) → length bs < k → length (bs ++ lacking (k - length bs)) ≡ k
length-filled k bs short = omega (arith, length-append bs (lacking (k - length bs)), length-lacking (k - length bs))

pub number_cut : (bs : List ℕ) → length bs < 4 → IsCutOff a_number bs
number_cut bs short = record { lacking = lacking (4 - length bs); some = some_lacking _ (omega arith); whole = length-filled 4 bs short }

pub body_cut : (bs : List ℕ) → length bs < 44 → IsCutOff a_body bs
body_cut bs short = record { lacking = lacking (44 - length bs); some = some_lacking _ (omega arith); whole = length-filled 44 bs short }

pub byte_cut : (most : ℕ) (bs : List ℕ) → length bs < 1 → IsCutOff (a_byte most) bs
byte_cut most bs short = record { lacking = lacking (1 - length bs); some = some_lacking _ (omega arith); whole = length-filled 1 bs short }

pub entry_cut : (bs : List ℕ) → IsCutOff named_path bs → IsCutOff entry_path bs
entry_cut bs cut = record { lacking = cut.lacking; some = cut.some; whole = cut.whole }

pub seen_cut_all : IsCutOff a_seen []
seen_cut_all = record { lacking = 1 ∷ []; some = λ e. cc; whole = inl (1, (λ e. absurd (omega arith)), refl) }

pub seen_cut_empty : (bs : List ℕ) → length bs ≡ 0 → IsCutOff a_seen bs
seen_cut_empty [] none = seen_cut_all
seen_cut_empty (b ∷ bs) none = absurd (omega arith)

pub seen_cut_mark : IsCutOff a_seen (3 ∷ [])
seen_cut_mark = record { lacking = 0 ∷ []; some = λ e. cc; whole = inr ([], refl) }

pub seen_cut_marked : (bs rest : List ℕ) (mark : ℕ) → bs ≡ mark ∷ rest → mark ≡ 3 → length rest ≡ 0 → IsCutOff a_seen bs
seen_cut_marked bs [] mark split is none = subst (IsCutOff a_seen) (ap (λ m. m ∷ []) (sym is) ∙ sym split) seen_cut_mark
seen_cut_marked bs (b ∷ rest) mark split is none = absurd (omega arith)

pub tag_cut : (len : ℕ) (bs : List ℕ) → length bs < len → IsCutOff a_seen (3 ∷ len ∷ bs)
tag_cut len bs short = record {
  lacking = lacking (len - length bs);
  some = some_lacking _ (omega arith);
  whole = inr (bs ++ lacking (len - length bs), ap (λ n. 3 ∷ n ∷ bs ++ lacking (len - length bs)) (sym (length-filled len bs short)));
}

-- a length of which the first byte alone is there
high_alone : (b : ℕ) → b < 256 → two_bytes (b * 256) ≡ b ∷ 0 ∷ []
unfolding two_bytes
high_alone b small = be_bytes_2 (b ∷ 0 ∷ []) (b * 256) refl (are_small b small) (omega arith)
  where
    are_small : (b : ℕ) → b < 256 → AreBytes (b ∷ 0 ∷ [])
    are_small b small zero = small
    are_small b small (suc zero) = omega arith
    are_small b small (suc (suc i)) = omega arith

nothing_sized : [] ++ two_bytes 0 ≡ two_bytes 0 ++ []
unfolding two_bytes
nothing_sized = refl

pub length_cut : (bs : List ℕ) → AreBytes bs → length bs < 2 → IsCutOff named_path bs
length_cut [] small short = record { lacking = two_bytes 0; some = λ e. absurd (omega (arith, length-two_bytes 0, ap length e)); whole = ([], omega arith, nothing_sized) }
length_cut (b ∷ []) small short =
    let inner = lacking (b * 256) in
    let fits : b < 256 = small 0 in
    record {
      lacking = 0 ∷ inner;
      some = λ e. cc;
      whole = (inner, omega (arith, length-lacking (b * 256)), ap (λ t. t ++ inner) (sym (high_alone b fits)) ∙ ap (λ n. two_bytes n ++ inner) (sym (length-lacking (b * 256))));
    }
length_cut (b ∷ c ∷ bs) small short = absurd (omega arith)

-- fewer bytes than the length says
pub text_cut : (bs rest : List ℕ) (len : ℕ) → bs ≡ two_bytes len ++ rest → len < 65536 → length rest < len → IsCutOff named_path bs
text_cut bs rest len split fits short =
    let more = lacking (len - length rest) in
    record {
      lacking = more;
      some = some_lacking _ (omega arith);
      whole = (
        rest ++ more,
        omega (arith, length-filled len rest short),
        ap (λ t. t ++ more) split ∙ append_assoc (two_bytes len) rest more ∙ ap (λ n. two_bytes n ++ (rest ++ more)) (sym (length-filled len rest short)),
      );
    }
