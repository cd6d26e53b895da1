pub mod ClassBody
