use Rattle.std.proofs.Common.{◌≡◌, ◌∷◌, [], ◌++◌, append_assoc}
use Rattle.std.specs.Fmt.{decimal}
use Rattle.std.specs.List.{flat_map}
use Rattle.sd_dispadmin.proofs.WriteLemmas.{row_text_spaced}
use Rattle.sd_dispadmin.proofs.write.put_row.Goals as goal

pub returns : goal.returns
returns c =
    let numbers : c.put_numbers.new.out.items ≡ c.args.out.now.items ++ flat_map (λ n. decimal n ++ 32 ∷ []) c.args.numbers.now = c.in_ok-put_numbers.ensures in
    let sign : c.extend_from_slice.new.self.items ≡ c.put_numbers.new.out.items ++ (35 ∷ 32 ∷ []) = c.in_ok-extend_from_slice.ensures.items in
    let level : c.put_number.new.out.items ≡ c.extend_from_slice.new.self.items ++ decimal c.args.level = c.in_ok-put_number.ensures.ok in
    let newline : c.push.new.self.items ≡ c.put_number.new.out.items ++ 10 ∷ [] = c.in_ok-push.ensures.items in
    rw (newline, level, sign, numbers, row_text_spaced c.args.numbers.now c.args.level c.requires) (simp append_assoc)
