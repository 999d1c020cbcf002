mod Continued
